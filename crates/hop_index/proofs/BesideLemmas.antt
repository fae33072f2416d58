-- The ASes that hops of chains join to one AS: which they are, and the least of them.
use Rattle.std.proofs.Common.{◌≡◌, ℕ, nat_eq, zero, suc, ◌+◌, ◌-◌, ◌<◌, ◌≤◌, Bool, true, false, cond, ◌||◌, ◌&&◌, List, [], ◌∷◌, ◌++◌, length, None, Some, inl, inr, refl, ap, sym, ◌∙◌, true≢false, arith}
use Rattle.std.specs.Prelude.{nat_le, slice_index}
use Rattle.std.specs.declared.cmp.Ordering.TheVariants.{Less}
use Rattle.std.specs.BTreeSet.{insert_key}
use Rattle.std.specs.Cmp.{nat_eq_equiv}
use Rattle.std.proofs.lemmas.Cmp.{ranked}
use Rattle.std.specs.List.{AllByRecursion}
use Rattle.std.specs.List.Sorted.{IsStrictlySortedBy}
use Rattle.std.specs.Ordering.{nat_cmp}
use Rattle.std.proofs.Math.Bool.{or-false}
use Rattle.std.proofs.lemmas.Bool.{or_cases, or_left, or_right, lt-leb, le-leb}
use Rattle.std.proofs.lemmas.Bool.Decides.{leb_tells}
use Rattle.std.proofs.lemmas.List.Kept.{IsStrictlySortedBy-filter}
use Rattle.std.proofs.lemmas.Map.Views.{exact_unsigned_eq}
use Rattle.hop_index.specs.Ends.{end_cmp, has_end, ends_at, ends_of}
use Rattle.hop_index.specs.Hops.{joins_within, has_hop}
use Rattle.hop_index.specs.Least.{IsLeast}
use Rattle.hop_index.specs.Loose.{Chains, chain_at, are_beside, SomeChainHas, loose_at, put_end, put_ends, beside, not_below}
use Rattle.hop_index.specs.Numbers.{has_number}
use Rattle.hop_index.proofs.LeastLemmas.{least_same}
use Rattle.hop_index.proofs.LooseLemmas.{loose_exact, loose_rise}
use Rattle.hop_index.proofs.NumberLemmas.{number_inserted, sorted_inserted}
use Rattle.hop_index.proofs.ThroughLemmas.{ends_exact, ends_rise}

-- ---- which ASes they are
mixed : (j n p q : Bool) → (((j || n) || q) || p) ≡ ((j || (p || q)) || n)
mixed true n p q = refl
mixed false true true q = refl
mixed false true false true = refl
mixed false true false false = refl
mixed false false true true = refl
mixed false false true false = refl
mixed false false false true = refl
mixed false false false false = refl

module _ (x : ℕ) where
  end_put : (a b y : ℕ) (ys : List ℕ) → has_number (put_end x a b ys) y ≡ (has_number ys y || (nat_eq x a && nat_eq y b))
  end_put a b y ys = by (nat_eq x a) where
    by : (t : Bool) → has_number (cond t (insert_key nat_cmp ys b) ys) y ≡ (has_number ys y || (t && nat_eq y b))
    by true = number_inserted b y ys
    by false = sym (or-false (has_number ys y))

  end_rises : (a b : ℕ) (ys : List ℕ) → IsStrictlySortedBy nat_cmp ys → IsStrictlySortedBy nat_cmp (put_end x a b ys)
  end_rises a b ys sorted = by (nat_eq x a) where
    by : (t : Bool) → IsStrictlySortedBy nat_cmp (cond t (insert_key nat_cmp ys b) ys)
    by true = sorted_inserted b ys sorted
    by false = sorted

  ends_put : (hops : ℕ) (chain : List ℕ) (y : ℕ) (ys : List ℕ) → has_number (put_ends hops chain x ys) y ≡ (joins_within hops chain x y || has_number ys y)
  ends_put zero chain y ys = refl
  ends_put (suc hops) chain y ys =
      let lower = slice_index chain hops in
      let upper = slice_index chain (hops + 1) in
      end_put lower upper y (put_end x upper lower (put_ends hops chain x ys))
      ∙ ap (λ (b : Bool). b || (nat_eq x lower && nat_eq y upper)) (end_put upper lower y (put_ends hops chain x ys)
      ∙ ap (λ (b : Bool). b || (nat_eq x upper && nat_eq y lower)) (ends_put hops chain y ys))
      ∙ mixed (joins_within hops chain x y) (has_number ys y) (nat_eq x lower && nat_eq y upper) (nat_eq x upper && nat_eq y lower)

  all_rise : (hops : ℕ) (chain : List ℕ) (ys : List ℕ) → IsStrictlySortedBy nat_cmp ys → IsStrictlySortedBy nat_cmp (put_ends hops chain x ys)
  all_rise zero chain ys sorted = sorted
  all_rise (suc hops) chain ys sorted =
      end_rises (slice_index chain hops) (slice_index chain (hops + 1)) (put_end x (slice_index chain (hops + 1)) (slice_index chain hops) (put_ends hops chain x ys))
      (end_rises (slice_index chain (hops + 1)) (slice_index chain hops) (put_ends hops chain x ys) (all_rise hops chain ys sorted))

  beside_exact : (y : ℕ) (chains : Chains) → has_number (beside x chains) y ≡ are_beside chains x y
  beside_exact y [] = refl
  beside_exact y (chain ∷ chains) = ends_put (length chain - 1) chain y (beside x chains) ∙ ap (λ (b : Bool). has_hop chain x y || b) (beside_exact y chains)

  beside_rises : (chains : Chains) → IsStrictlySortedBy nat_cmp (beside x chains)
  unfolding IsStrictlySortedBy
  beside_rises [] = tt
  beside_rises (chain ∷ chains) = all_rise (length chain - 1) chain (beside x chains) (beside_rises chains)

  hop_beside : (n y : ℕ) (chains : Chains) → has_hop (chain_at chains n) x y ≡ true → are_beside chains x y ≡ true
  hop_beside n y [] h = absurd (true≢false (sym h))
  hop_beside zero y (chain ∷ chains) h = or_left (has_hop chain x y) (are_beside chains x y) h
  hop_beside (suc n) y (chain ∷ chains) h = or_right (has_hop chain x y) (are_beside chains x y) (hop_beside n y chains h)

  beside_hop : (y : ℕ) (chains : Chains) → are_beside chains x y ≡ true → SomeChainHas chains x y
  beside_hop y [] h = absurd (true≢false (sym h))
  beside_hop y (chain ∷ chains) h = elim (or_cases (has_hop chain x y) (are_beside chains x y) h) [
    | inl here ↦ (zero, here)
    | inr later ↦ let r = beside_hop y chains later in (suc r.0, r.1)
  ]

-- ---- those that are at least a number
above : (z y : ℕ) (zs : List ℕ) → AllByRecursion (λ w. nat_cmp z w ≡ Less) zs → has_number zs y ≡ true → z < y
above z y [] all there = absurd (true≢false (sym there))
above z y (w ∷ ws) all there = elim (or_cases (nat_eq y w) (has_number ws y) there) [
  | inl same ↦ let e : y ≡ w = exact_unsigned_eq y w same in let less : z < w = ranked z w Less (sym all.0) in omega (arith, e, less)
  | inr later ↦ above z y ws all.1 later
]

kept_all : (k z : ℕ) (zs : List ℕ) → k ≤ z + 1 → AllByRecursion (λ w. nat_cmp z w ≡ Less) zs → not_below k zs ≡ zs
kept_all k z [] le all = refl
kept_all k z (w ∷ ws) le all =
    let less : z < w = ranked z w Less (sym all.0) in
    ap (λ (b : Bool). cond b (w ∷ not_below k ws) (not_below k ws)) (le-leb k w (omega (arith, less, le)))
    ∙ ap (λ (l : List ℕ). w ∷ l) (kept_all k z ws le all.1)

first_kept : (from z : ℕ) (zs : List ℕ) → from ≤ z → not_below from (z ∷ zs) ≡ z ∷ not_below from zs
first_kept from z zs le = ap (λ (b : Bool). cond b (z ∷ not_below from zs) (not_below from zs)) (le-leb from z le)

first_gone : (from z : ℕ) (zs : List ℕ) → z < from → not_below from (z ∷ zs) ≡ not_below from zs
first_gone from z zs less = ap (λ (b : Bool). cond b (z ∷ not_below from zs) (not_below from zs)) (lt-leb from z less)

module _ (z : ℕ) (zs : List ℕ) (from y : ℕ) (all : AllByRecursion (λ w. nat_cmp z w ≡ Less) zs) (is : IsLeast (has_number (z ∷ zs)) from (Some y)) where
  -- the first one is the least
  at_first : from ≤ z → not_below from (z ∷ zs) ≡ y ∷ not_below (y + 1) (z ∷ zs)
  at_first le =
      let least : y ≤ z = is.2 z le (or_left (nat_eq z z) (has_number zs z) (nat_eq_equiv.refl z)) in
      let same : y ≡ z = elim (or_cases (nat_eq y z) (has_number zs y) is.1) [
        | inl here ↦ exact_unsigned_eq y z here
        | inr there ↦ let more = above z y zs all there in omega (arith, more, least)
      ] in
      first_kept from z zs le ∙ ap (λ (l : List ℕ). z ∷ l) (kept_all from z zs (omega (arith, le)) all
      ∙ sym (kept_all (z + 1) z zs (omega arith) all) ∙ sym (first_gone (z + 1) z zs (omega arith)))
      ∙ ap (λ (w : ℕ). w ∷ not_below (w + 1) (z ∷ zs)) (sym same)

  -- the first one is below
  least_later : z < from → IsLeast (has_number zs) from (Some y)
  least_later less = (
    is.0,
    elim (or_cases (nat_eq y z) (has_number zs y) is.1) [
      | inl here ↦ let e = exact_unsigned_eq y z here in absurd (omega (arith, e, less, is.0))
      | inr there ↦ there
    ],
    λ w le h. is.2 w le (or_right (nat_eq w z) (has_number zs w) h),
  )

  later : z < from → not_below from zs ≡ y ∷ not_below (y + 1) zs → not_below from (z ∷ zs) ≡ y ∷ not_below (y + 1) (z ∷ zs)
  later less rest = first_gone from z zs less ∙ rest ∙ ap (λ (l : List ℕ). y ∷ l) (sym (first_gone (y + 1) z zs (omega (arith, less, is.0))))

from_least : (ys : List ℕ) (from y : ℕ) → IsStrictlySortedBy nat_cmp ys → IsLeast (has_number ys) from (Some y) → not_below from ys ≡ y ∷ not_below (y + 1) ys
unfolding IsStrictlySortedBy
from_least [] from y sorted is = absurd (true≢false (sym is.1))
from_least (z ∷ zs) from y sorted is = elim (leb_tells from z) [
  | inl h ↦ at_first z zs from y sorted.0 is h.1
  | inr h ↦ later z zs from y sorted.0 is h.1 (from_least zs from y sorted.1 (least_later z zs from y sorted.0 is h.1))
]

from_none : (ys : List ℕ) (from : ℕ) → IsLeast (has_number ys) from None → not_below from ys ≡ []
from_none [] from none = refl
from_none (z ∷ zs) from none = elim (leb_tells from z) [
  | inl h ↦ absurd (none z h.1 (or_left (nat_eq z z) (has_number zs z) (nat_eq_equiv.refl z)))
  | inr h ↦ first_gone from z zs h.1 ∙ from_none zs from (λ w le there. none w le (or_right (nat_eq w z) (has_number zs w) there))
]

from_zero : (ys : List ℕ) → not_below 0 ys ≡ ys
from_zero [] = refl
from_zero (y ∷ ys) = first_kept 0 y ys (omega arith) ∙ ap (λ (l : List ℕ). y ∷ l) (from_zero ys)

-- ---- the next AS, and all of them
module _ (x : ℕ) (chains : Chains) where
  pub beside_next : (from y : ℕ) → IsLeast (are_beside chains x) from (Some y) → not_below from (beside x chains) ≡ y ∷ not_below (y + 1) (beside x chains)
  beside_next from y is =
      from_least (beside x chains) from y (beside_rises x chains)
      (least_same (are_beside chains x) (has_number (beside x chains)) from (Some y) (λ z. sym (beside_exact x z chains)) is)

  pub beside_end : (from : ℕ) → IsLeast (are_beside chains x) from None → not_below from (beside x chains) ≡ []
  beside_end from is =
      from_none (beside x chains) from (least_same (are_beside chains x) (has_number (beside x chains)) from None (λ z. sym (beside_exact x z chains)) is)

  from_all : (y : ℕ) → has_number (not_below 0 (beside x chains)) y ≡ are_beside chains x y
  from_all y = ap (λ (ys : List ℕ). has_number ys y) (from_zero (beside x chains)) ∙ beside_exact x y chains

  pub all_whole : (y n : ℕ) → has_hop (chain_at chains n) x y ≡ true → has_number (not_below 0 (beside x chains)) y ≡ true
  all_whole y n h = from_all y ∙ hop_beside x n y chains h

  pub all_only : (y : ℕ) → has_number (not_below 0 (beside x chains)) y ≡ true → SomeChainHas chains x y
  all_only y h = beside_hop x y chains (sym (from_all y) ∙ h)

  pub all_rising : IsStrictlySortedBy nat_cmp (not_below 0 (beside x chains))
  all_rising = IsStrictlySortedBy-filter nat_cmp (nat_le 0) (beside x chains) (beside_rises x chains)

  pub all_exact : (y n : ℕ) → has_end (ends_of (loose_at chains x) (not_below 0 (beside x chains))) y n ≡ has_hop (chain_at chains n) x y
  all_exact y n =
      ap (λ (ys : List ℕ). has_end (ends_of (loose_at chains x) ys) y n) (from_zero (beside x chains))
      ∙ ends_exact (loose_at chains x) (beside x chains)
      (λ z m h. beside_exact x z chains ∙ hop_beside x m z chains (sym (loose_exact x z m chains) ∙ h)) y n
      ∙ loose_exact x y n chains

  pub all_in_order : IsStrictlySortedBy end_cmp (ends_of (loose_at chains x) (not_below 0 (beside x chains)))
  all_in_order =
      ends_rise (loose_at chains x) (not_below 0 (beside x chains)) (λ y. loose_rise x y chains) all_rising

  -- the AS that is gone through has no case left, and there is no other one,
  pub ends_done : (from y : ℕ) (cases : List ℕ) → cases ≡ [] → IsLeast (are_beside chains x) from None
      → ends_at y cases ++ ends_of (loose_at chains x) (not_below from (beside x chains)) ≡ []
  ends_done from y cases none is =
      ap (λ (ns : List ℕ). ends_at y ns ++ ends_of (loose_at chains x) (not_below from (beside x chains))) none
      ∙ ap (ends_of (loose_at chains x)) (beside_end from is)

  -- or the next one
  pub ends_next : (from y z next : ℕ) (cases more : List ℕ) → cases ≡ [] → IsLeast (are_beside chains x) from (Some z) → more ≡ loose_at chains x z → next ≡ z + 1
      → ends_at z more ++ ends_of (loose_at chains x) (not_below next (beside x chains))
      ≡ ends_at y cases ++ ends_of (loose_at chains x) (not_below from (beside x chains))
  ends_next from y z next cases more none is whole one =
      ap (λ (ns : List ℕ). ends_at z ns ++ ends_of (loose_at chains x) (not_below next (beside x chains))) whole
      ∙ ap (λ (n : ℕ). ends_at z (loose_at chains x z) ++ ends_of (loose_at chains x) (not_below n (beside x chains))) one
      ∙ ap (ends_of (loose_at chains x)) (sym (beside_next from z is))
      ∙ ap (λ (ns : List ℕ). ends_at y ns ++ ends_of (loose_at chains x) (not_below from (beside x chains))) (sym none)

  pub fewer_left : (from z next : ℕ) → IsLeast (are_beside chains x) from (Some z) → next ≡ z + 1
      → length (not_below next (beside x chains)) < length (not_below from (beside x chains))
  fewer_left from z next is one =
      let left = ap length (beside_next from z is) in
      let same = ap (λ (n : ℕ). length (not_below n (beside x chains))) one in
      omega (arith, left, same)
