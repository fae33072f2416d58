-- An AS that is looked up in a row.
use Rattle.std.proofs.Common.{◌≡◌, ℕ, nat_cmp, nat_eq, Bool, true, false, List, Some, is_ok, get_or, refl, sym, ◌∙◌, subst, arith, ⊎_elim, true≢false}
use Rattle.std.specs.declared.result.Result.{Result}
use Rattle.std.specs.declared.result.Result.TheVariants.{Ok, Err}
use Rattle.std.specs.Bool.{Decides}
use Rattle.std.specs.List.{IsAllAdjacentAnswer, Contains}
use Rattle.std.specs.List.Sorted.{IsBinarySearchResult, IsNonDecreasing}
use Rattle.std.specs.Ordering.{is_le, is_some_and}
use Rattle.std.proofs.lemmas.Bool.{cases_lt, false_from_ne_true}
use Rattle.std.proofs.lemmas.Bool.Decides.{Decides-eqb, Decides-by_or}
use Rattle.std.proofs.lemmas.Grind.{get_or_default_zero}
use Rattle.std.proofs.lemmas.List.Elements.{Decides-contains}
use Rattle.std.proofs.lemmas.List.Sorted.{non_decreasing_from_is_sorted, searched}
use Rattle.path_model.specs.Authority.{has}
use Rattle.path_model.proofs.AuthorityLemmas.{has-at}

pub risen_from : (xs : List ℕ) (r : Bool) → IsAllAdjacentAnswer (λ x y b. is_some_and is_le (Some (nat_cmp x y)) ≡ b) xs r → r ≡ true → IsNonDecreasing xs
risen_from xs true answer is = non_decreasing_from_is_sorted xs true answer
risen_from xs false answer is = absurd (true≢false (sym is))

-- what a list has is one of its elements
has_decides : (xs : List ℕ) (q : ℕ) → Decides (has xs q) (Contains xs q)
has_decides xs q =
    Decides-contains xs q (has xs q) (Decides-by_or (λ x. nat_eq x q) (λ x. x ≡ q) (λ ys. has ys q) (λ x. Decides-eqb x q) refl (λ _ _. refl) xs)

-- a search of a list that rises finds what it has
pub halving_finds : (xs : List ℕ) (x : ℕ) (r : Result ℕ ℕ) → IsNonDecreasing xs → IsBinarySearchResult (λ y. nat_cmp y x) xs r → is_ok r ≡ has xs x
halving_finds xs x (Ok i) rises found =
    let at = searched xs x (Ok i) found (λ j k. rises j k 0) in
    sym (subst (λ (y : ℕ). has xs y ≡ true) at.1 (has-at xs i at.0))
halving_finds xs x (Err i) rises found =
    let at = searched xs x (Err i) found (λ j k. rises j k 0) in
    sym (false_from_ne_true (has xs x) (λ e.
    let here = (has_decides xs x).0 e in
    let is : get_or xs here.0 0 ≡ x = sym (get_or_default_zero xs here.0 x here.1) ∙ here.2 in
    ⊎_elim (λ l. omega (arith, is, at.1 here.0 l)) (λ l. omega (arith, is, at.2 here.0 l here.1)) (cases_lt here.0 i)))
