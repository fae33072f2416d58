use Rattle.origin_model.specs.PrefixFilter.{IsHit}
use Rattle.origin_validation.specs.Records.{IsUnhitIn}
use Rattle.origin_validation.proofs.StateLemmas.{Folds, Among}
use Rattle.origin_validation.proofs.covering.state_by_each.Given as goal

abbrev pub invariant-loop-v : goal.invariant-loop-v
invariant-loop-v l = Folds (IsUnhitIn l.set l.filters l.front) (Among l.prefix l.origin (λ w. ¬ IsHit l.filters w) l.v-iterator) l.prefix l.origin l.state
