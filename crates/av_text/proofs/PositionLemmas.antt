-- What `position` answers, by the place of the first item that passes, or else the length.
use Rattle.std.proofs.Common.{◌≡◌, ℕ, ◌≤◌, Bool, true, false, not, cond, nat_lt, List, length, Some, None, position, unwrap_or, refl, arith}
use Rattle.std.specs.List.{position_or_len}
use Rattle.std.proofs.lemmas.Bool.{ltb-false}
use Rattle.std.proofs.lemmas.List.Sums.{prefix_len-le-length}

found_place : (b : Bool) (n i : ℕ) → cond b (Some n) None ≡ Some i → n ≡ i
found_place true n i e = cc
found_place false n i e = cc

no_place : (b : Bool) (n len : ℕ) → nat_lt n len ≡ b → cond b (Some n) None ≡ None → len ≤ n
no_place true n len t e = absurd (let no : ⊥ = cc in no)
no_place false n len t e = ltb-false n len t

some_place : (b : Bool) (n len : ℕ) → nat_lt n len ≡ b → n ≤ len → unwrap_or (cond b (Some n) None) len ≡ n
some_place true n len t within = refl
some_place false n len t within = let above : len ≤ n = ltb-false n len t in omega arith

-- the place itself,
pub position-found : (p : ℕ → Bool) (xs : List ℕ) (i : ℕ) → position p xs ≡ Some i → position_or_len p xs ≡ i
position-found p xs i found = found_place _ _ _ found

-- nothing where none passes,
pub position-none : (p : ℕ → Bool) (xs : List ℕ) → position p xs ≡ None → length xs ≤ position_or_len p xs
position-none p xs none = no_place _ _ _ refl none

-- and with the length for nothing, the place in each case
pub unwrap_or-position : (p : ℕ → Bool) (xs : List ℕ) → unwrap_or (position p xs) (length xs) ≡ position_or_len p xs
unwrap_or-position p xs = some_place _ _ _ refl (prefix_len-le-length (λ x. not (p x)) xs)
