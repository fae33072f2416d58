use Rattle.std.proofs.Common.{List, ℕ, subst}
use Rattle.std.specs.declared.option.Option.{Option}
use Rattle.shared_cases.specs.Touching.{IsRisen}
use Rattle.shared_cases.proofs.moved_rows.MovedRows.new.Goals as goal

pub invariant_of-result : goal.invariant_of-result
invariant_of-result c = (
  λ is. subst (λ (row : Option (List ℕ)). IsRisen row) c.as_ref.ensures.value (c.is_risen.ensures is),
  λ is. subst (λ (row : Option (List ℕ)). IsRisen row) c.as_ref-2.ensures.value (c.is_risen-2.ensures is),
)
