-- The cases of a hop and the other ends of an AS's hops, as chains that aren't in lists give them.
use Rattle.std.proofs.Common.{◌≡◌, ℕ, nat_eq, zero, suc, ◌+◌, ◌<◌, ◌≤◌, Bool, true, false, cond, ◌||◌, [], ◌∷◌, length, drop, inl, inr, refl, ap, sym, ◌∙◌, arith}
use Rattle.std.specs.declared.cmp.Ordering.TheVariants.{Less}
use Rattle.std.specs.Cmp.{nat_cmp_is, nat_eq_equiv}
use Rattle.std.specs.List.{AllByRecursion}
use Rattle.std.specs.List.Sorted.{IsStrictlySortedBy}
use Rattle.std.specs.Ordering.{nat_cmp}
use Rattle.std.proofs.lemmas.Bool.Decides.{eqb_tells}
use Rattle.std.proofs.lemmas.List.{drop_more, drop_all}
use Rattle.hop_index.specs.Hops.{has_hop}
use Rattle.hop_index.specs.Loose.{Chains, chain_at, cases_from, loose_at}
use Rattle.hop_index.specs.Numbers.{has_number}

-- ---- the cases of a hop
apart : (a b : ℕ) → (a ≡ b → ⊥) → nat_eq a b ≡ false
apart a b not = elim (eqb_tells a b) [
  | inl is ↦ absurd (not is.1)
  | inr is ↦ is.0
]

module _ (x y : ℕ) where
  -- no case is below the first number
  none_before : (m n : ℕ) (chains : Chains) → n < m → has_number (cases_from x y m chains) n ≡ false
  none_before m n [] less = refl
  none_before m n (chain ∷ chains) less = by (has_hop chain x y) (none_before (m + 1) n chains (omega (arith, less))) where
    by : (b : Bool) → has_number (cases_from x y (m + 1) chains) n ≡ false → has_number (cond b (m ∷ cases_from x y (m + 1) chains) (cases_from x y (m + 1) chains)) n ≡ false
    by true rest = ap (λ (b : Bool). b || has_number (cases_from x y (m + 1) chains) n) (apart n m (λ same. omega (arith, same, less))) ∙ rest
    by false rest = rest

  all_behind : (k m : ℕ) (chains : Chains) → k < m → AllByRecursion (λ n. nat_cmp k n ≡ Less) (cases_from x y m chains)
  all_behind k m [] less = tt
  all_behind k m (chain ∷ chains) less = by (has_hop chain x y) (all_behind k (m + 1) chains (omega (arith, less))) where
    by : (b : Bool) → AllByRecursion (λ n. nat_cmp k n ≡ Less) (cases_from x y (m + 1) chains)
        → AllByRecursion (λ n. nat_cmp k n ≡ Less) (cond b (m ∷ cases_from x y (m + 1) chains) (cases_from x y (m + 1) chains))
    by true rest = (sym (nat_cmp_is k m Less less), rest)
    by false rest = rest

  cases_exact : (m n : ℕ) (chains : Chains) → has_number (cases_from x y m chains) (m + n) ≡ has_hop (chain_at chains n) x y
  cases_exact m n [] = refl
  cases_exact m zero (chain ∷ chains) =
      let here : m + zero ≡ m = omega arith in
      ap (has_number (cases_from x y m (chain ∷ chains))) here ∙ by (has_hop chain x y) where
        by : (b : Bool) → has_number (cond b (m ∷ cases_from x y (m + 1) chains) (cases_from x y (m + 1) chains)) m ≡ b
        by true = ap (λ (b : Bool). b || has_number (cases_from x y (m + 1) chains) m) (nat_eq_equiv.refl m)
        by false = none_before (m + 1) m chains (omega arith)
  cases_exact m (suc n) (chain ∷ chains) =
      let next : m + suc n ≡ m + 1 + n = omega arith in
      by (has_hop chain x y) (ap (has_number (cases_from x y (m + 1) chains)) next ∙ cases_exact (m + 1) n chains) where
        by : (b : Bool) → has_number (cases_from x y (m + 1) chains) (m + suc n) ≡ has_hop (chain_at chains n) x y
            → has_number (cond b (m ∷ cases_from x y (m + 1) chains) (cases_from x y (m + 1) chains)) (m + suc n) ≡ has_hop (chain_at chains n) x y
        by true rest = ap (λ (b : Bool). b || has_number (cases_from x y (m + 1) chains) (m + suc n)) (apart (m + suc n) m (λ same. omega (arith, same))) ∙ rest
        by false rest = rest

  cases_rise : (m : ℕ) (chains : Chains) → IsStrictlySortedBy nat_cmp (cases_from x y m chains)
  unfolding IsStrictlySortedBy
  cases_rise m [] = tt
  cases_rise m (chain ∷ chains) = by (has_hop chain x y) (cases_rise (m + 1) chains) where
    by : (b : Bool) → IsStrictlySortedBy nat_cmp (cases_from x y (m + 1) chains)
        → IsStrictlySortedBy nat_cmp (cond b (m ∷ cases_from x y (m + 1) chains) (cases_from x y (m + 1) chains))
    by true rest = (all_behind m (m + 1) chains (omega arith), rest)
    by false rest = rest

  pub loose_exact : (n : ℕ) (chains : Chains) → has_number (loose_at chains x y) n ≡ has_hop (chain_at chains n) x y
  loose_exact n chains = let none : n ≡ 0 + n = omega arith in ap (has_number (loose_at chains x y)) none ∙ cases_exact 0 n chains

  pub loose_rise : (chains : Chains) → IsStrictlySortedBy nat_cmp (loose_at chains x y)
  loose_rise chains = cases_rise 0 chains

  -- one chain after another is gone over
  pub over_one : (n : ℕ) (chains : Chains) → n < length chains → has_hop (chain_at chains n) x y ≡ true
      → cases_from x y n (drop n chains) ≡ n ∷ cases_from x y (n + 1) (drop (n + 1) chains)
  over_one n chains within there =
      ap (cases_from x y n) (drop_more chains n [] within)
      ∙ ap (λ (b : Bool). cond b (n ∷ cases_from x y (n + 1) (drop (n + 1) chains)) (cases_from x y (n + 1) (drop (n + 1) chains))) there

  pub over_none : (n : ℕ) (chains : Chains) → n < length chains → has_hop (chain_at chains n) x y ≡ false
      → cases_from x y n (drop n chains) ≡ cases_from x y (n + 1) (drop (n + 1) chains)
  over_none n chains within none =
      ap (cases_from x y n) (drop_more chains n [] within)
      ∙ ap (λ (b : Bool). cond b (n ∷ cases_from x y (n + 1) (drop (n + 1) chains)) (cases_from x y (n + 1) (drop (n + 1) chains))) none

  pub over_all : (n : ℕ) (chains : Chains) → length chains ≤ n → cases_from x y n (drop n chains) ≡ []
  over_all n chains all = ap (cases_from x y n) (drop_all n chains all)
