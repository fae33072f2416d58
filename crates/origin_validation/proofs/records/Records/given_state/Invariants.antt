use Rattle.origin_validation.specs.Records.{IsGivenUnhit}
use Rattle.origin_validation.proofs.StateLemmas.{Folds, Given}
use Rattle.origin_validation.proofs.records.Records.given_state.Given as goal

abbrev pub invariant-loop-set : goal.invariant-loop-set
invariant-loop-set l = Folds (IsGivenUnhit l.self.sources l.self.filters) (Given l.prefix l.origin l.self.filters l.set-iterator) l.prefix l.origin l.state
