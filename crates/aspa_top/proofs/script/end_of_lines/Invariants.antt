use Rattle.std.proofs.Common.{◌≤◌, drop, length}
use Rattle.av_text.specs.Lines.{IsPart}
use Rattle.aspa_top.proofs.script.end_of_lines.Given as goal

-- what stands behind has no LF
abbrev pub invariant-loop-end : goal.invariant-loop-end
invariant-loop-end l = (l.end ≤ length l.bytes) × IsPart (drop l.end l.bytes)

abbrev pub decreases-loop-end : goal.decreases-loop-end
decreases-loop-end l = l.end
