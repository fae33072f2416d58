-- Chains are put together anew, one after another.
use Rattle.std.proofs.Common.{◌≡◌, ℕ, nat_eq, ◌+◌, ◌≤◌, ◌<◌, Bool, if◌then◌else◌, [], length, ap, sym, ◌∙◌, arith, inl, inr}
use Rattle.std.specs.Cmp.{nat_eq_equiv}
use Rattle.std.proofs.lemmas.Bool.{cases_lt}
use Rattle.std.proofs.lemmas.List.{get_or_past}
use Rattle.hop_index.specs.Loose.{Chains, chain_at, HaveTheSame, SetsChain}
use Rattle.hop_index.proofs.ListingLemmas.{differs}

-- `now` has the chains of the cases below k, and no others
pub record HasFirst (chains : Chains) (k : ℕ) (now : Chains) : Type 0 where
  pub come : (n : ℕ) → n < k → chain_at now n ≡ chain_at chains n
  pub others : (n : ℕ) → k ≤ n → chain_at now n ≡ []
  pub reached : k ≤ length now

pub none_put : (chains now : Chains) → now ≡ [] → HasFirst chains 0 now
none_put chains now none = record {
  come = λ n below. absurd (omega (arith, below));
  others = λ n _. ap (λ (cs : Chains). chain_at cs n) none;
  reached = omega arith;
}

-- the next one comes
pub one_put : (chains : Chains) (k : ℕ) (before after : Chains) → HasFirst chains k before → SetsChain before k (chain_at chains k) after → k < length after → HasFirst chains (k + 1) after
one_put chains k before after first sets longer = record {
  come = λ n below. elim (cases_lt n k) [
    | inl less ↦
        let other : n ≡ k → ⊥ = λ e. omega (arith, less, e) in
        sets n ∙ ap (λ (b : Bool). if b then chain_at chains k else chain_at before n) (differs n k other) ∙ first.come n less
    | inr last ↦
        let e : n ≡ k = omega (arith, below, last) in
        sets n ∙ ap (λ (m : ℕ). if nat_eq n m then chain_at chains m else chain_at before n) (sym e)
        ∙ ap (λ (b : Bool). if b then chain_at chains n else chain_at before n) (nat_eq_equiv.refl n)
  ];
  others = λ n beyond.
      let other : n ≡ k → ⊥ = λ e. omega (arith, beyond, e) in
      sets n ∙ ap (λ (b : Bool). if b then chain_at chains k else chain_at before n) (differs n k other) ∙ first.others n (omega (arith, beyond));
  reached = omega (arith, longer);
}

pub all_put : (chains : Chains) (k : ℕ) (now : Chains) → length chains ≤ k → HasFirst chains k now → HaveTheSame chains now
all_put chains k now all first n = elim (cases_lt n k) [
  | inl less ↦ first.come n less
  | inr beyond ↦
      let bound : length chains ≤ n = omega (arith, all, beyond) in
      first.others n beyond ∙ sym (get_or_past chains n [] bound)
]
