use Rattle.std.proofs.Common.{length}
use Rattle.vap_table.proofs.SteppingLemmas.{Stepping}
use Rattle.vap_table.proofs.stepping.stepped_by.Given as goal

abbrev pub invariant-loop-number : goal.invariant-loop-number
invariant-loop-number l = Stepping l.step l.given l.list l.done.items l.counts l.numbers

abbrev pub decreases-loop-number : goal.decreases-loop-number
decreases-loop-number l = length l.numbers
