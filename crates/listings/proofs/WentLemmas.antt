-- What is counted at an AS, hop by hop of a case.
use Rattle.std.proofs.Common.{◌≡◌, ℕ, zero, suc, nat_eq, nat_lt, ◌+◌, ◌-◌, ◌<◌, Bool, true, false, cond, ◌||◌, ◌&&◌, List, Some, refl, sym, ap, ◌∙◌, arith}
use Rattle.std.specs.Prelude.{slice_index}
use Rattle.std.specs.declared.option.Option.{Option}
use Rattle.std.proofs.lemmas.Bool.{lt-ltb}
use Rattle.listings.specs.declared.went.Count.{Count}
use Rattle.listings.specs.declared.went.Went.{Went}
use Rattle.listings.specs.EachNeighbour.{counted, went_or, with_case, with_ways}
use Rattle.listings.specs.Neighbours.{goes_at, goes_within}

-- ---- a case is counted once

abbrev pub more_of : ℕ → ℕ → Count → Count
more_of n u count = record { routes = count.routes + u; next = n + 1 }

again : (n u : ℕ) (count : Count) → nat_lt n count.next ≡ true → with_case n u count ≡ count
again n u count e = ap (λ (b : Bool). cond b count (more_of n u count)) e

pub anew : (n u : ℕ) (count : Count) → nat_lt n count.next ≡ false → with_case n u count ≡ more_of n u count
anew n u count e = ap (λ (b : Bool). cond b count (more_of n u count)) e

case_twice : (n u : ℕ) (count : Count) → with_case n u (with_case n u count) ≡ with_case n u count
case_twice n u count = by (nat_lt n count.next) refl where
  by : (b : Bool) → nat_lt n count.next ≡ b → with_case n u (with_case n u count) ≡ with_case n u count
  by true e = ap (with_case n u) (again n u count e)
  by false e =
      let is : with_case n u count ≡ more_of n u count = anew n u count e in
      ap (with_case n u) is ∙ again n u (more_of n u count) (lt-ltb n (n + 1) (omega arith)) ∙ sym is

one_way : (a t : Bool) (n u : ℕ) (count : Count)
    → cond a (with_case n u (cond t (with_case n u count) count)) (cond t (with_case n u count) count) ≡ cond (t || a) (with_case n u count) count
one_way true true n u count = case_twice n u count
one_way true false n u count = refl
one_way false true n u count = refl
one_way false false n u count = refl

ways_twice : (a b t f : Bool) (n u : ℕ) (went : Went) → with_ways a b n u (with_ways t f n u went) ≡ with_ways (t || a) (f || b) n u went
ways_twice a b t f n u went = λ i. record { to = one_way a t n u went.to i; from = one_way b f n u went.from i }

counted_some : (a b : Bool) (n u : ℕ) (went : Went) → counted a b n u (Some went) ≡ Some (with_ways a b n u went)
counted_some true b n u went = refl
counted_some false true n u went = refl
counted_some false false n u went = refl

-- what went in one step and in another one went in both
pub counted_twice : (a b t f : Bool) (n u : ℕ) (went : Option Went) → counted a b n u (counted t f n u went) ≡ counted (t || a) (f || b) n u went
counted_twice a b true f n u went =
    counted_some a b n u (with_ways true f n u (went_or went)) ∙ ap Some (ways_twice a b true f n u (went_or went))
counted_twice true b false true n u went =
    counted_some true b n u (with_ways false true n u (went_or went)) ∙ ap Some (ways_twice true b false true n u (went_or went))
counted_twice false b false true n u went =
    counted_some false b n u (with_ways false true n u (went_or went)) ∙ ap Some (ways_twice false b false true n u (went_or went))
counted_twice a b false false n u went = refl

-- ---- hop by hop

module _ (chain : List ℕ) (asn y n u : ℕ) where
  -- what is counted with the hops from the first so many places
  abbrev pub counted_within : ℕ → Option Went → Option Went
  counted_within k went = counted (goes_within k chain asn y) (goes_within k chain y asn) n u went

  within_suc : (k : ℕ) (first : Option Went) → counted (goes_at chain k asn y) (goes_at chain k y asn) n u (counted_within k first) ≡ counted_within (suc k) first
  within_suc k first = counted_twice (goes_at chain k asn y) (goes_at chain k y asn) (goes_within k chain asn y) (goes_within k chain y asn) n u first

  -- with one hop more, which ends at this place
  pub hop_counted : (k : ℕ) (first was now : Option Went) → 0 < k → was ≡ counted_within (k - 1) first
      → now ≡ counted (nat_eq asn (slice_index chain (k - 1)) && nat_eq y (slice_index chain k)) (nat_eq y (slice_index chain (k - 1)) && nat_eq asn (slice_index chain k)) n u was
      → now ≡ counted_within (k + 1 - 1) first
  hop_counted zero first was now some so_far step = absurd (omega (arith, some))
  hop_counted (suc k) first was now some so_far step =
      let place : suc k - 1 ≡ k = omega arith in
      let behind : suc k ≡ k + 1 = omega arith in
      let more : suc k ≡ suc k + 1 - 1 = omega arith in
      step
      ∙ (λ i. counted (nat_eq asn (slice_index chain (place i)) && nat_eq y (slice_index chain (behind i)))
      (nat_eq y (slice_index chain (place i)) && nat_eq asn (slice_index chain (behind i))) n u ((so_far ∙ ap (λ (m : ℕ). counted_within m first) place) i))
      ∙ within_suc k first
      ∙ ap (λ (m : ℕ). counted_within m first) more
