use Rattle.std.proofs.Common.{List, ℕ, ap, sym, subst}
use Rattle.std.specs.Option.{option_copied}
use Rattle.std.specs.declared.option.Option.{Option}
use Rattle.std.specs.List.Sorted.{IsNonDecreasing}
use Rattle.shared_cases.specs.Touching.{IsRisen}
use Rattle.shared_cases.proofs.moved_rows.said_by.Goals as goal

pub has-requires : goal.has-requires
has-requires c = λ is. subst (λ (xs : List ℕ). IsNonDecreasing xs) (sym c.as_slice.ensures)
    (subst (λ (row : Option (List ℕ)). IsRisen row) (ap option_copied c.in-Some.is) (c.requires is))
