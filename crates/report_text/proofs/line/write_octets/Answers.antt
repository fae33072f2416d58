use Rattle.std.proofs.Common.{sym, decimal}
use Rattle.report_text.proofs.DigitLemmas.{behind, respelled, four_octets}
use Rattle.report_text.proofs.line.write_octets.Goals as goal

pub returns-clause-written : goal.returns-clause-written
returns-clause-written c =
    respelled (behind c.write_octet-end.ensures.written (behind c.write_behind-end.ensures.written
    (behind c.write_octet-end-2.ensures.written (behind c.write_behind-end-2.ensures.written
    (behind c.write_octet-end-3.ensures.written (behind c.write_behind-end-3.ensures.written c.write_octet.ensures.written))))))
    (sym (four_octets decimal 46 c.args.bits))
