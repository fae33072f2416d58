use Rattle.std.proofs.Common.{length}
use Rattle.origin_validation.specs.Held.{Keeps}
use Rattle.origin_validation.proofs.held.forget_under.Given as goal

abbrev pub invariant-loop-pair : goal.invariant-loop-pair
invariant-loop-pair l = Keeps (λ p. Unit {0}) l.fn.held.entries l.held.entries

abbrev pub decreases-loop-pair : goal.decreases-loop-pair
decreases-loop-pair l = length l.held.entries
