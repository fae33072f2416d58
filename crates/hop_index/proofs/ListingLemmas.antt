-- Chains come to lists one after another.
use Rattle.std.proofs.Common.{◌≡◌, ℕ, nat_eq, ◌+◌, ◌≤◌, ◌<◌, Bool, true, false, ◌||◌, ◌&&◌, List, [], length, refl, ap, sym, ◌∙◌, arith, inl, inr}
use Rattle.std.specs.Cmp.{nat_eq_equiv}
use Rattle.std.proofs.Math.Bool.{or-false}
use Rattle.std.proofs.lemmas.Bool.{cases_lt}
use Rattle.std.proofs.lemmas.List.{get_or_past}
use Rattle.std.proofs.lemmas.Map.Views.{exact_unsigned_eq}
use Rattle.hop_index.specs.Hops.{has_hop}
use Rattle.hop_index.specs.Kept.{HaveChains}
use Rattle.hop_index.specs.Lists.{Lists, has, HasNothing, Adds}
use Rattle.hop_index.specs.Loose.{Chains, chain_at}

-- the lists have the hops of the chains of the cases below k, and no others
pub record HaveFirst (chains : Chains) (k : ℕ) (lists : Lists) : Type 0 where
  pub come : (x y n : ℕ) → n < k → has lists x y n ≡ has_hop (chain_at chains n) x y
  pub others : (x y n : ℕ) → k ≤ n → has lists x y n ≡ false

pub differs : (n k : ℕ) → (n ≡ k → ⊥) → nat_eq n k ≡ false
differs n k other = by (nat_eq n k) refl where
  by : (t : Bool) → nat_eq n k ≡ t → t ≡ false
  by true told = absurd (other (exact_unsigned_eq n k told))
  by false told = refl

pub none_come : (chains : Chains) (lists : Lists) → HasNothing lists → HaveFirst chains 0 lists
none_come chains lists none = record { come = λ x y n below. absurd (omega (arith, below)); others = λ x y n _. none x y n }

-- the next one comes
pub one_come : (chains : Chains) (k : ℕ) (before after : Lists) → HaveFirst chains k before → Adds before k (chain_at chains k) after → HaveFirst chains (k + 1) after
one_come chains k before after first adds = record {
  come = λ x y n below. elim (cases_lt n k) [
    | inl less ↦
        let other : n ≡ k → ⊥ = λ e. omega (arith, less, e) in
        adds x y n ∙ ap (λ (b : Bool). has before x y n || (b && has_hop (chain_at chains k) x y)) (differs n k other) ∙ or-false (has before x y n) ∙ first.come x y n less
    | inr last ↦
        let e : n ≡ k = omega (arith, below, last) in
        adds x y n ∙ ap (λ (b : Bool). b || (nat_eq n k && has_hop (chain_at chains k) x y)) (first.others x y n last)
        ∙ ap (λ (m : ℕ). nat_eq n m && has_hop (chain_at chains m) x y) (sym e) ∙ ap (λ (b : Bool). b && has_hop (chain_at chains n) x y) (nat_eq_equiv.refl n)
  ];
  others = λ x y n beyond.
      let other : n ≡ k → ⊥ = λ e. omega (arith, beyond, e) in
      adds x y n ∙ ap (λ (b : Bool). has before x y n || (b && has_hop (chain_at chains k) x y)) (differs n k other) ∙ or-false (has before x y n)
      ∙ first.others x y n (omega (arith, beyond));
}

pub all_come : (chains : Chains) (k : ℕ) (lists : Lists) → length chains ≤ k → HaveFirst chains k lists → HaveChains chains lists
all_come chains k lists all first x y n = elim (cases_lt n k) [
  | inl less ↦ first.come x y n less
  | inr beyond ↦
      let bound : length chains ≤ n = omega (arith, all, beyond) in
      first.others x y n beyond ∙ sym (ap (λ (chain : List ℕ). has_hop chain x y) (get_or_past chains n [] bound))
]
