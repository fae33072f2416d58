use Rattle.std.proofs.Common.{sym}
use Rattle.av_text.specs.AddressText.{hex4}
use Rattle.report_text.proofs.DigitLemmas.{behind, respelled, eight_groups}
use Rattle.report_text.proofs.line.write_groups.Goals as goal

pub returns-clause-written : goal.returns-clause-written
returns-clause-written c =
    respelled (behind c.write_half-end.ensures.written (behind c.write_behind-end.ensures.written c.write_half.ensures.written))
    (sym (eight_groups hex4 58 c.args.bits))
