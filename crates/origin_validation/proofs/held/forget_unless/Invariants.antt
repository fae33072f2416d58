use Rattle.origin_validation.specs.Held.{Keeps}
use Rattle.origin_validation.proofs.PassLemmas.{Unless}
use Rattle.origin_validation.proofs.held.forget_unless.Given as goal

abbrev pub invariant-loop-v : goal.invariant-loop-v
invariant-loop-v l = Keeps (Unless l.some l.others l.v-iterator) l.fn.held.entries l.held.entries
