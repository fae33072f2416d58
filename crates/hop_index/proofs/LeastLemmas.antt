-- The least AS of a kind: of the hops of a chain, and of those of chains.
use Rattle.std.proofs.Common.{◌≡◌, ℕ, nat_eq, zero, suc, ◌+◌, ◌-◌, ◌<◌, ◌≤◌, Bool, true, ◌||◌, ◌&&◌, ◌⊎◌, List, length, take, get_or, None, Some, inl, inr, ap, sym, ◌∙◌, arith}
use Rattle.std.specs.Prelude.{slice_index}
use Rattle.std.specs.declared.option.Option.{Option}
use Rattle.std.proofs.lemmas.Bool.{or_left, or_right, cases_lt}
use Rattle.std.proofs.lemmas.List.Folds.{list_any_more}
use Rattle.hop_index.specs.Hops.{joins_at, joins_within, has_hop}
use Rattle.hop_index.specs.Least.{IsLeast}
use Rattle.hop_index.specs.Loose.{Chains, are_beside}
use Rattle.hop_index.proofs.IndexLemmas.{more_within, ends_at}

-- of two kinds that are the same
pub least_same : (p q : ℕ → Bool) (from : ℕ) (o : Option ℕ) → ((z : ℕ) → p z ≡ q z) → IsLeast p from o → IsLeast q from o
least_same p q from None same is = λ z le h. is z le (same z ∙ h)
least_same p q from (Some y) same is = (is.0, sym (same y) ∙ is.1, λ z le h. is.2 z le (same z ∙ h))

-- one hop of a chain more
pub hop_more : (k : ℕ) (chain : List ℕ) (x from : ℕ) (o : Option ℕ) (lower upper : ℕ) → 0 < k → lower ≡ slice_index chain (k - 1) → upper ≡ slice_index chain k
    → IsLeast (λ y. joins_within (k - 1) chain x y || ((nat_eq x lower && nat_eq y upper) || (nat_eq x upper && nat_eq y lower))) from o
    → IsLeast (joins_within (k + 1 - 1) chain x) from o
hop_more k chain x from o lower upper some is_lower is_upper is =
    least_same (λ y. joins_within (k - 1) chain x y || ((nat_eq x lower && nat_eq y upper) || (nat_eq x upper && nat_eq y lower))) (joins_within (k + 1 - 1) chain x) from o
    (λ y. ap (λ (b : Bool). joins_within (k - 1) chain x y || b) (ends_at k chain lower upper x y some is_lower is_upper) ∙ sym (more_within k chain x y some)) is

-- one chain more
pub chain_more : (chains : Chains) (i : ℕ) (d : List ℕ) (x from : ℕ) (o : Option ℕ) → i < length chains
    → IsLeast (λ y. are_beside (take i chains) x y || has_hop (get_or chains i d) x y) from o → IsLeast (are_beside (take (i + 1) chains) x) from o
chain_more chains i d x from o within is =
    least_same (λ y. are_beside (take i chains) x y || has_hop (get_or chains i d) x y) (are_beside (take (i + 1) chains) x) from o
    (λ y. sym (list_any_more (λ chain. has_hop chain x y) chains i d within)) is

-- what joins x and y among the first hops does so among all
pub joins_among : (n m : ℕ) (chain : List ℕ) (x y : ℕ) → n ≤ m → joins_within n chain x y ≡ true → joins_within m chain x y ≡ true
joins_among n zero chain x y le h = let none : n ≡ zero = omega (arith, le) in sym (ap (λ k. joins_within k chain x y) none) ∙ h
joins_among n (suc m) chain x y le h = by (cases_lt m n) (λ less. joins_among n m chain x y less h) where
  by : ((m < n) ⊎ (n ≤ m)) → (n ≤ m → joins_within m chain x y ≡ true) → joins_within (suc m) chain x y ≡ true
  by (inr less) before = or_left (joins_within m chain x y) (joins_at chain m x y) (before less)
  by (inl more) before = let all : n ≡ suc m = omega (arith, le, more) in sym (ap (λ k. joins_within k chain x y) all) ∙ h

pub hop_there : (k : ℕ) (chain : List ℕ) (x y lower upper : ℕ) → 0 < k → k < length chain → lower ≡ slice_index chain (k - 1) → upper ≡ slice_index chain k
    → ((nat_eq x lower && nat_eq y upper) || (nat_eq x upper && nat_eq y lower)) ≡ true → has_hop chain x y ≡ true
hop_there k chain x y lower upper some within is_lower is_upper is =
    joins_among (k + 1 - 1) (length chain - 1) chain x y (omega (arith, within))
    (more_within k chain x y some ∙ or_right (joins_within (k - 1) chain x y) (joins_at chain (k - 1) x y) (sym (ends_at k chain lower upper x y some is_lower is_upper) ∙ is))
