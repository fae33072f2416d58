use Rattle.std.proofs.Common.{length}
use Rattle.aspa_payload.proofs.LinesLemmas.{ReadingLines}
use Rattle.aspa_payload.proofs.lines.read_lines.Given as goal

abbrev pub invariant-loop-line : goal.invariant-loop-line
invariant-loop-line l = ReadingLines l.bytes l.rest l.gathered l.unit

abbrev pub decreases-loop-line : goal.decreases-loop-line
decreases-loop-line l = length l.rest
