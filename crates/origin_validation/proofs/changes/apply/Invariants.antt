use Rattle.origin_validation.proofs.PatchLemmas.{Applies}
use Rattle.origin_validation.proofs.changes.apply.Given as goal

abbrev pub invariant-loop-v : goal.invariant-loop-v
invariant-loop-v l = Applies l.changes l.v-iterator l.fn.set l.set
