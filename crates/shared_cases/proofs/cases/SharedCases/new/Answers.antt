use Rattle.std.proofs.Common.{sym, subst}
use Rattle.shared_cases.specs.Cases.{Slots}
use Rattle.shared_cases.specs.Kept.{FitTogether}
use Rattle.shared_cases.proofs.cases.SharedCases.new.Goals as goal

pub invariant_of-result : goal.invariant_of-result
invariant_of-result c = subst (λ (cases : Slots). FitTogether cases c.new-2.result) (sym c.new.ensures.empty) c.new-2.ensures
