-- All hops of a chain.
use Rattle.std.proofs.Common.{◌≡◌, ℕ, zero, suc, nat_eq, ◌+◌, ◌-◌, ◌<◌, ◌^◌, Bool, true, false, not, ◌||◌, ◌&&◌, List, refl, ap, sym, ◌∙◌, arith}
use Rattle.std.specs.Prelude.{slice_index}
use Rattle.std.proofs.lemmas.Map.Views.{exact_unsigned_eq}
use Rattle.hop_index.specs.Hops.{joins_at, joins_within, has_hop}
use Rattle.hop_index.specs.Lists.{Lists, has, Removes}
use Rattle.hop_index.specs.Kept.{is_hop}

one_in : (old same seen here : Bool) → ((old || (same && seen)) || (same && here)) ≡ (old || (same && (seen || here)))
one_in true same seen here = refl
one_in false false seen here = refl
one_in false true seen here = refl

one_out : (old same seen here : Bool) → ((old && not (same && seen)) && not (same && here)) ≡ (old && not (same && (seen || here)))
one_out false same seen here = refl
one_out true false seen here = refl
one_out true true true here = refl
one_out true true false here = refl

pub more_within : (k : ℕ) (chain : List ℕ) (x y : ℕ) → 0 < k → joins_within (k + 1 - 1) chain x y ≡ (joins_within (k - 1) chain x y || joins_at chain (k - 1) x y)
more_within zero chain x y some = absurd (omega arith)
more_within (suc n) chain x y some = let e : suc n + 1 - 1 ≡ suc n = omega arith in let f : suc n - 1 ≡ n = omega arith in rw (e, f) refl

-- the hop that ends at the place k
pub ends_at : (k : ℕ) (chain : List ℕ) (lower upper x y : ℕ) → 0 < k → lower ≡ slice_index chain (k - 1) → upper ≡ slice_index chain k
    → ((nat_eq x lower && nat_eq y upper) || (nat_eq x upper && nat_eq y lower)) ≡ joins_at chain (k - 1) x y
ends_at k chain lower upper x y some is_lower is_upper =
    let next : k ≡ k - 1 + 1 = omega arith in
    ap (λ (a : ℕ). (nat_eq x a && nat_eq y upper) || (nat_eq x upper && nat_eq y a)) is_lower
    ∙ ap (λ (b : ℕ). (nat_eq x (slice_index chain (k - 1)) && nat_eq y b) || (nat_eq x b && nat_eq y (slice_index chain (k - 1)))) (is_upper ∙ ap (slice_index chain) next)

-- the hop that ends at the place k went in
pub step_in : (k case : ℕ) (chain : List ℕ) (before now after : ℕ → ℕ → ℕ → Bool) (lower upper : ℕ) → 0 < k → lower ≡ slice_index chain (k - 1) → upper ≡ slice_index chain k
    → ((x y n : ℕ) → now x y n ≡ (before x y n || (nat_eq n case && joins_within (k - 1) chain x y)))
    → ((x y n : ℕ) → after x y n ≡ (now x y n || is_hop x y n lower upper case))
    → (x y n : ℕ) → after x y n ≡ (before x y n || (nat_eq n case && joins_within (k + 1 - 1) chain x y))
step_in k case chain before now after lower upper some is_lower is_upper so_far one x y n =
    one x y n ∙ ap (λ (b : Bool). b || (nat_eq n case && ((nat_eq x lower && nat_eq y upper) || (nat_eq x upper && nat_eq y lower)))) (so_far x y n)
    ∙ one_in (before x y n) (nat_eq n case) (joins_within (k - 1) chain x y) ((nat_eq x lower && nat_eq y upper) || (nat_eq x upper && nat_eq y lower))
    ∙ ap (λ (b : Bool). before x y n || (nat_eq n case && b))
    (ap (λ (b : Bool). joins_within (k - 1) chain x y || b) (ends_at k chain lower upper x y some is_lower is_upper) ∙ sym (more_within k chain x y some))

-- it went out
pub step_out : (k case : ℕ) (chain : List ℕ) (before now after : ℕ → ℕ → ℕ → Bool) (lower upper : ℕ) → 0 < k → lower ≡ slice_index chain (k - 1) → upper ≡ slice_index chain k
    → ((x y n : ℕ) → now x y n ≡ (before x y n && not (nat_eq n case && joins_within (k - 1) chain x y)))
    → ((x y n : ℕ) → after x y n ≡ (now x y n && not (is_hop x y n lower upper case)))
    → (x y n : ℕ) → after x y n ≡ (before x y n && not (nat_eq n case && joins_within (k + 1 - 1) chain x y))
step_out k case chain before now after lower upper some is_lower is_upper so_far one x y n =
    one x y n ∙ ap (λ (b : Bool). b && not (nat_eq n case && ((nat_eq x lower && nat_eq y upper) || (nat_eq x upper && nat_eq y lower)))) (so_far x y n)
    ∙ one_out (before x y n) (nat_eq n case) (joins_within (k - 1) chain x y) ((nat_eq x lower && nat_eq y upper) || (nat_eq x upper && nat_eq y lower))
    ∙ ap (λ (b : Bool). before x y n && not (nat_eq n case && b))
    (ap (λ (b : Bool). joins_within (k - 1) chain x y || b) (ends_at k chain lower upper x y some is_lower is_upper) ∙ sym (more_within k chain x y some))

-- a case whose number is beyond all others has no hops to go
pub none_out : (index : Lists) (case : ℕ) (chain : List ℕ) → ((x y n : ℕ) → has index x y n ≡ true → n < 2 ^ 32) → (case < 2 ^ 32 → ⊥) → Removes index case chain index
none_out index case chain few big x y n = by_tests (has index x y n) refl (nat_eq n case) refl where
  by_tests : (there : Bool) → has index x y n ≡ there → (same : Bool) → nat_eq n case ≡ same → there ≡ (there && not (same && has_hop chain x y))
  by_tests false is same told = refl
  by_tests true is false told = refl
  by_tests true is true told =
      let e : n ≡ case = exact_unsigned_eq n case told in
      absurd (big (omega (arith, few x y n is, e)))
