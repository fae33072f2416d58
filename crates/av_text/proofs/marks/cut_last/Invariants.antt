use Rattle.std.proofs.Common.{◌≤◌, drop, length}
use Rattle.av_text.specs.Marks.{Lacks}
use Rattle.av_text.proofs.marks.cut_last.Given as goal

-- what stands behind has no mark
abbrev pub invariant-loop-at : goal.invariant-loop-at
invariant-loop-at l = (l.at ≤ length l.text) × Lacks l.mark (drop l.at l.text)

abbrev pub decreases-loop-at : goal.decreases-loop-at
decreases-loop-at l = l.at
