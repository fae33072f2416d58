-- Hops that refuse, and which is open behind the next one.
use Rattle.std.proofs.Common.{◌≡◌, ◌↔◌, ℕ, ◌+◌, ◌-◌, ◌<◌, ◌⊎◌, inl, inr, List, length, sym, ◌∙◌, arith}
use Rattle.path_model.specs.declared.authority.Authority.TheVariants.{Refuses}
use Rattle.path_model.specs.Authority.{Table, authority_of}
use Rattle.path_model.specs.Labelling.{RefusesToClimb, RefusesToDescend, upward, downward}
use Rattle.path_model.specs.Witness.{IsHop}
use Rattle.std.specs.Prelude.{slice_index}
use Rattle.valleys.specs.Valleys.{IsOpenUntil}
use Rattle.valleys.specs.Walk.{climb_at, descent_at}

-- what is attested of a hop, by its number and by its place
climb_place : (table : Table) (chain : List ℕ) (place hop : ℕ) → hop ≡ place + 1 → climb_at table chain hop ≡ upward table chain place
climb_place table chain place hop number =
    let lower : hop - 1 ≡ place = omega arith in
    λ i. authority_of table (slice_index chain (lower i)) (slice_index chain (number i))

descent_place : (table : Table) (chain : List ℕ) (place hop : ℕ) → hop ≡ place + 1 → descent_at table chain hop ≡ downward table chain place
descent_place table chain place hop number =
    let lower : hop - 1 ≡ place = omega arith in
    λ i. authority_of table (slice_index chain (number i)) (slice_index chain (lower i))

-- a hop refuses to climb where its lower AS refuses the upper one
pub climb_refused : (table : Table) (chain : List ℕ) (hop : ℕ) → 0 < hop → hop < length chain
    → (climb_at table chain hop ≡ Refuses) ↔ IsHop chain (RefusesToClimb table chain) hop
climb_refused table chain hop some within =
    let number : hop ≡ hop - 1 + 1 = omega arith in (
      (λ so. record { place = hop - 1; number = number; within = within; so = sym (climb_place table chain (hop - 1) hop number) ∙ so }),
      λ is. climb_place table chain is.place hop is.number ∙ is.so,
    )

-- and to descend where the upper AS refuses the lower one
pub descent_refused : (table : Table) (chain : List ℕ) (hop : ℕ) → 0 < hop → hop < length chain
    → (descent_at table chain hop ≡ Refuses) ↔ IsHop chain (RefusesToDescend table chain) hop
descent_refused table chain hop some within =
    let number : hop ≡ hop - 1 + 1 = omega arith in (
      (λ so. record { place = hop - 1; number = number; within = within; so = sym (descent_place table chain (hop - 1) hop number) ∙ so }),
      λ is. descent_place table chain is.place hop is.number ∙ is.so,
    )

-- a number below k + 1 is k or below k
pub same_or_below : (k n : ℕ) → k < n + 1 → (k ≡ n) ⊎ (k < n)
same_or_below k n below = grind arith

-- a hop that refuses to climb is open behind itself
pub open_new : (table : Table) (chain : List ℕ) (k : ℕ) → IsHop chain (RefusesToClimb table chain) k → IsOpenUntil table chain k (k + 1)
open_new table chain k hop = record {
  before = omega arith;
  opens = hop;
  no_climb = λ m above below. absurd (omega arith);
  no_descent = λ m above below. absurd (omega arith);
}

-- an open hop stays open behind one that refuses neither
pub open_more : (table : Table) (chain : List ℕ) (i k : ℕ) → IsOpenUntil table chain i k → (IsHop chain (RefusesToClimb table chain) k → ⊥)
    → (IsHop chain (RefusesToDescend table chain) k → ⊥) → IsOpenUntil table chain i (k + 1)
open_more table chain i k is no_climb no_descent = record {
  before = omega (arith, is.before);
  opens = is.opens;
  no_climb = λ m above below hop. elim (same_or_below m k below) [
    | inl same ↦ no_climb (rw same at hop)
    | inr less ↦ is.no_climb m above less hop
  ];
  no_descent = λ m above below hop. elim (same_or_below m k below) [
    | inl same ↦ no_descent (rw same at hop)
    | inr less ↦ is.no_descent m above less hop
  ];
}

-- a hop that is open behind another was open before that, or is it
pub open_less : (table : Table) (chain : List ℕ) (i k : ℕ) → IsOpenUntil table chain i (k + 1) → (i ≡ k) ⊎ IsOpenUntil table chain i k
open_less table chain i k is = elim (same_or_below i k is.before) [
  | inl same ↦ inl same
  | inr less ↦ inr (record {
    before = less;
    opens = is.opens;
    no_climb = λ m above below. is.no_climb m above (omega arith);
    no_descent = λ m above below. is.no_descent m above (omega arith);
  })
]
