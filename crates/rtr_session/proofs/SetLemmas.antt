-- The set of a list's numbers: there is one, and no other.
use Rattle.std.proofs.Common.{◌≡◌, ℕ, zero, suc, ◌<◌, inl, inr, Bool, true, false, ◌||◌, List, [], ◌∷◌, length, refl, sym, ap, ◌∙◌, nat_eq, arith}
use Rattle.std.specs.Prelude.{slice_index_or}
use Rattle.std.specs.declared.option.Option.{Option}
use Rattle.std.specs.declared.option.Option.TheVariants.{Some, None}
use Rattle.std.specs.List.{Contains}
use Rattle.std.proofs.lemmas.Bool.Decides.{eqb_tells, nat_tests}
use Rattle.std.proofs.lemmas.Map.Keys.{IsStrictlyIncreasing-from_sorted, sorted_from_strictly_increasing}
use Rattle.path_model.specs.Authority.{has}
use Rattle.path_model.specs.Ascending.{ascending_of}
use Rattle.path_model.specs.Rows.{IsRowOf}
use Rattle.path_model.specs.Sets.{IsSetOf}
use Rattle.path_model.proofs.AscendingLemmas.{ascending_sorted, has_ascending, same_members}

here : (x : ℕ) (xs : List ℕ) (y : ℕ) → x ≡ y → Contains (x ∷ xs) y
here x xs y same = (0, omega arith, same)

behind : (x : ℕ) (xs : List ℕ) (y : ℕ) → Contains xs y → Contains (x ∷ xs) y
behind x xs y (k, within, is) = (suc k, omega (arith, within), is)

contained : (xs : List ℕ) (y : ℕ) → has xs y ≡ true → Contains xs y
contained [] y e = let never : ⊥ = cc in absurd never
contained (x ∷ xs) y e = elim (eqb_tells x y) [
  | inl is ↦ here x xs y is.1
  | inr other ↦ behind x xs y (contained xs y (rw other.0 at e))
]

itself : (x : ℕ) → nat_eq x x ≡ true
itself x = grind (arith, nat_tests)

or_true : (b : Bool) (c : Bool) → c ≡ true → (b || c) ≡ true
or_true true c e = refl
or_true false c e = e

found : (xs : List ℕ) (y k : ℕ) → k < length xs → slice_index_or xs k y ≡ y → has xs y ≡ true
found [] y k within is = let never : ⊥ = omega (arith, within) in absurd never
found (x ∷ xs) y zero within is = rw (is, itself y) refl
found (x ∷ xs) y (suc k) within is = or_true (nat_eq x y) (has xs y) (found xs y k (omega (arith, within)) is)

both_or_none : (b c : Bool) → (b ≡ true → c ≡ true) → (c ≡ true → b ≡ true) → b ≡ c
both_or_none true c to from = sym (to refl)
both_or_none false true to from = from refl
both_or_none false false to from = refl

has_contained : (xs : List ℕ) (y : ℕ) → Contains xs y → has xs y ≡ true
has_contained xs y (k, within, is) = found xs y k within is

pub IsSetOf-unique : (list one other : List ℕ) → IsSetOf list one → IsSetOf list other → one ≡ other
IsSetOf-unique list one other a b = same_members one other (sorted_from_strictly_increasing one a.ascending) (sorted_from_strictly_increasing other b.ascending) (λ q.
    both_or_none (has one q) (has other q)
    (λ e. has_contained other q (b.all q (a.within q (contained one q e))))
    (λ e. has_contained one q (a.all q (b.within q (contained other q e)))))

pub some_set : (list : List ℕ) → IsSetOf list (ascending_of list)
some_set list = record {
  ascending = IsStrictlyIncreasing-from_sorted (ascending_of list) (ascending_sorted list);
  within = λ x h. contained list x (sym (has_ascending list x) ∙ has_contained (ascending_of list) x h);
  all = λ x h. contained (ascending_of list) x (has_ascending list x ∙ has_contained list x h);
}

-- the row that a patch was given, where it was given one
pub row_given : (list row : List ℕ) (given : Option (List ℕ)) → IsSetOf list row → IsRowOf (Some list) given → given ≡ Some row
row_given list row None is given = absurd given
row_given list row (Some other) is given = ap Some (IsSetOf-unique list other row given is)
