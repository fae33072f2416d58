use Rattle.std.proofs.Common.{List, ℕ, ap, sym, subst}
use Rattle.std.specs.Option.{option_copied}
use Rattle.std.specs.declared.option.Option.{Option}
use Rattle.std.specs.List.Sorted.{IsNonDecreasing}
use Rattle.shared_cases.specs.Touching.{IsRisen}
use Rattle.shared_cases.proofs.RowLemmas.{risen_from}
use Rattle.shared_cases.proofs.moved_rows.is_risen.Goals as goal

pub returns-in-Some : goal.returns-in-Some
returns-in-Some c = λ is. subst (λ (row : Option (List ℕ)). IsRisen row) (sym (ap option_copied c.in-Some.is))
    (subst (λ (xs : List ℕ). IsNonDecreasing xs) c.as_slice.ensures (risen_from c.as_slice.result.now c.is_sorted.result c.is_sorted.ensures.cases is))
