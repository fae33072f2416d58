-- Each judgement is that of another touched case.
use Rattle.std.proofs.Common.{◌≡◌, ◌≢◌, ℕ, ◌≤◌, true, false, List, [], ◌∷◌, length, None, Some, Less, refl, ap, sym, subst, ◌∙◌, arith, true≢false}
use Rattle.std.specs.Prelude.{map, All}
use Rattle.std.specs.declared.option.Option.{Option}
use Rattle.std.specs.Cmp.{nat_eq_equiv, unsigned_tied}
use Rattle.std.specs.List.{AllByRecursion}
use Rattle.std.specs.List.Sorted.{IsStrictlySortedBy}
use Rattle.std.specs.Ordering.{nat_cmp, is_eq}
use Rattle.std.proofs.lemmas.List.{length-map}
use Rattle.std.proofs.lemmas.List.Elements.{All-cons, All-nil}
use Rattle.std.proofs.lemmas.Map.Keys.{sorted_head, sorted_tail}
use Rattle.path_model.specs.Trail.{Path}
use Rattle.shared_cases.specs.declared.case.StoredCase.{StoredCase}
use Rattle.shared_cases.specs.Cases.{Slots, at, AreDistinct, IsStoredAs}
use Rattle.shared_cases.specs.Grounds.{Grounds}
use Rattle.shared_cases.specs.Numbers.{has}
use Rattle.shared_cases.specs.Touched.{IsTouched, AreApart, IsTouchedCase, AreWithinTouched}
use Rattle.shared_cases.proofs.NumberLemmas.{has_first, has_later}

-- a case that is touched
abbrev pub IsTouchedNumber : Grounds → Grounds → Option StoredCase → Type 0
IsTouchedNumber old new None = ⊥
IsTouchedNumber old new (Some c) = IsTouched old new (c.asn, c.trail)

-- the AS and the path of a case
abbrev pair_of : Option StoredCase → ℕ × Path
pair_of None = (0, record { set = false; chain = [] })
pair_of (Some c) = (c.asn, c.trail)

pub not_below : (a b : ℕ) → a ≡ b → nat_cmp a b ≡ Less → ⊥
not_below a b e less = true≢false (sym (nat_eq_equiv.refl b) ∙ sym (unsigned_tied b b) ∙ ap (λ (c : ℕ). is_eq (nat_cmp c b)) (sym e) ∙ ap is_eq less)

touched_case : (old new : Grounds) (cases : Slots) (n : ℕ) (c : Option StoredCase) → at cases n ≡ c → IsTouchedNumber old new c → IsTouchedCase old new cases (pair_of c)
touched_case old new cases n None here touched = absurd touched
touched_case old new cases n (Some c) here touched = record {
  number = n;
  stored = subst (λ (o : Option StoredCase). IsStoredAs o c.asn c.trail) (sym here) (refl, refl);
  touched = touched;
}

stored_pair : (old new : Grounds) (c : Option StoredCase) → IsTouchedNumber old new c → IsStoredAs c (pair_of c).0 (pair_of c).1
stored_pair old new None touched = touched
stored_pair old new (Some c) touched = (refl, refl)

module _ (old new : Grounds) (cases : Slots) (distinct : AreDistinct cases) where
  abbrev pair_at : ℕ → ℕ × Path
  pair_at n = pair_of (at cases n)

  abbrev IsTouchedAt : ℕ → Type 0
  IsTouchedAt n = IsTouchedNumber old new (at cases n)

  same_number : (m n : ℕ) → IsTouchedAt m → IsTouchedAt n → pair_at m ≡ pair_at n → m ≡ n
  same_number m n one other e = distinct m n (pair_at m).0 (pair_at m).1 (stored_pair old new (at cases m) one)
      (subst (λ (p : ℕ × Path). IsStoredAs (at cases n) p.0 p.1) (sym e) (stored_pair old new (at cases n) other))

  apart_from : (x : ℕ) (ns : List ℕ) → IsTouchedAt x → ((n : ℕ) → has ns n ≡ true → IsTouchedAt n) → AllByRecursion (λ y. nat_cmp x y ≡ Less) ns → All (λ q. pair_at x ≢ q) (map pair_at ns)
  apart_from x [] here each below = All-nil (λ q. pair_at x ≢ q)
  apart_from x (y ∷ ys) here each below = All-cons (λ q. pair_at x ≢ q) (pair_at y) (map pair_at ys)
      (λ e. not_below x y (same_number x y here (each y (has_first y y ys refl)) e) below.0)
      (apart_from x ys here (λ n later. each n (has_later n y ys later)) below.1)

  all_apart : (ns : List ℕ) → IsStrictlySortedBy nat_cmp ns → ((n : ℕ) → has ns n ≡ true → IsTouchedAt n) → AreApart (map pair_at ns)
  all_apart [] rising each = tt
  all_apart (x ∷ xs) rising each = (
    apart_from x xs (each x (has_first x x xs refl)) (λ n later. each n (has_later n x xs later)) (sorted_head nat_cmp x xs rising),
    all_apart xs (sorted_tail nat_cmp x xs rising) (λ n later. each n (has_later n x xs later)),
  )

  all_touched : (ns : List ℕ) → ((n : ℕ) → has ns n ≡ true → IsTouchedAt n) → All (IsTouchedCase old new cases) (map pair_at ns)
  all_touched [] each = All-nil (IsTouchedCase old new cases)
  all_touched (x ∷ xs) each = All-cons (IsTouchedCase old new cases) (pair_at x) (map pair_at xs)
      (touched_case old new cases x (at cases x) refl (each x (has_first x x xs refl))) (all_touched xs (λ n later. each n (has_later n x xs later)))

  -- the cases of these numbers are as many distinct pairs
  pub within_touched : (ns : List ℕ) (ticks : ℕ) → IsStrictlySortedBy nat_cmp ns → ((n : ℕ) → has ns n ≡ true → IsTouchedAt n) → ticks ≤ length ns → AreWithinTouched old new cases ticks
  within_touched ns ticks rising each few = record {
    pairs = map pair_at ns;
    apart = all_apart ns rising each;
    each = all_touched ns each;
    within = omega (arith, few, length-map ns pair_at);
  }
