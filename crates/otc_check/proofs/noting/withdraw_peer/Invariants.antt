use Rattle.std.proofs.Common.{◌≡◌}
use Rattle.std.specs.FinMap as fin
use Rattle.otc_check.specs.Marks.{marks_of, without_peer}
use Rattle.otc_check.proofs.noting.withdraw_peer.Given as goal

abbrev pub invariant-loop-key : goal.invariant-loop-key
invariant-loop-key l = without_peer l.fn.peer (marks_of l.marks) ≡ without_peer l.fn.peer (marks_of l.fn.marks)

abbrev pub decreases-loop-key : goal.decreases-loop-key
decreases-loop-key l = fin.len (marks_of l.marks)
