use Rattle.std.proofs.Common.{length}
use Rattle.vap_table.proofs.SteppingLemmas.{Repeats}
use Rattle.vap_table.proofs.stepping.behind.Given as goal

abbrev pub invariant-loop-first : goal.invariant-loop-first
invariant-loop-first l = Repeats l.number l.list l.left

abbrev pub decreases-loop-first : goal.decreases-loop-first
decreases-loop-first l = length l.left
