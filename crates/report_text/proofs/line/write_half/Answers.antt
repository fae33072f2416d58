use Rattle.std.proofs.Common.{sym}
use Rattle.av_text.specs.AddressText.{hex4}
use Rattle.report_text.proofs.DigitLemmas.{behind, respelled, four_groups}
use Rattle.report_text.proofs.line.write_half.Goals as goal

pub returns-clause-written : goal.returns-clause-written
returns-clause-written c =
    respelled (behind c.write_group-end.ensures.written (behind c.write_behind-end.ensures.written
    (behind c.write_group-end-2.ensures.written (behind c.write_behind-end-2.ensures.written
    (behind c.write_group-end-3.ensures.written (behind c.write_behind-end-3.ensures.written c.write_group.ensures.written))))))
    (sym (four_groups hex4 58 c.args.half))
