use Rattle.std.proofs.Common.{List, ℕ, ◌+◌, arith, subst}
use Rattle.report_text.specs.Writes.{Writes}
use Rattle.report_text.proofs.DigitLemmas.{shorter}
use Rattle.report_text.proofs.line.write_verdict.Goals as goal

pub returns-clause-written : goal.returns-clause-written
returns-clause-written c = subst (λ (t : List ℕ). Writes t c.args.line.now c.args.at c.write_bytes.new.line (c.args.at + c.padded-len.result.1)) c.padded-len.ensures.word
    (shorter c.padded-len.result.1 c.write_bytes.ensures.written (omega (arith, c.requires)) (omega (arith, c.padded-len.ensures.within)))
