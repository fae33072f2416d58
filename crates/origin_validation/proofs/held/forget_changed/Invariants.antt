use Rattle.origin_validation.specs.Held.{Keeps}
use Rattle.origin_validation.proofs.PatchLemmas.{AlreadyOrLeft}
use Rattle.origin_validation.proofs.held.forget_changed.Given as goal

abbrev pub invariant-loop-v : goal.invariant-loop-v
invariant-loop-v l = Keeps (AlreadyOrLeft l.before l.changes l.v-iterator) l.fn.held.entries l.held.entries
