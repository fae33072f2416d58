use Rattle.origin_validation.proofs.LengthLemmas.{Unseen}
use Rattle.origin_validation.proofs.covering.has_unhit.Given as goal

abbrev pub invariant-loop-v : goal.invariant-loop-v
invariant-loop-v l = Unseen l.set l.filters l.front l.v-iterator
