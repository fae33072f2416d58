-- The first and the last case of a hop: its ASes become neighbours, and are none from then on.
use Rattle.std.proofs.Common.{◌≡◌, ℕ, nat_eq, ◌<◌, ◌^◌, Bool, true, false, not, ◌||◌, ◌&&◌, refl, ap, sym, ◌∙◌, arith, inl, inr}
use Rattle.std.proofs.lemmas.Bool.{and_parts, or_cases}
use Rattle.std.proofs.lemmas.Map.Views.{exact_unsigned_eq}
use Rattle.hop_index.specs.declared.pair.Pair.{Pair}
use Rattle.hop_index.specs.Lists.{Lists, has}
use Rattle.hop_index.specs.Kept.{Ends, AddsNeighbour, RemovesNeighbour, HaveNeighbours, stands, is_pair, AddsCase, RemovesCase, HaveCases, AreRising, AreKept}
use Rattle.hop_index.specs.Pairs.{pair_of}
use Rattle.hop_index.proofs.PairLemmas.{pairs_told}

or_both : (a b c : Bool) → ((a || b) || c) ≡ (a || (b || c))
or_both true b c = refl
or_both false b c = refl

pub and_both : (a b c : Bool) → ((a && not b) && not c) ≡ (a && not (b || c))
and_both true true c = refl
and_both true false c = refl
and_both false b c = refl

module _ (ends : Ends) (hops hops' : Lists) (u v case : ℕ) (pair : Pair) (same : pair ≡ pair_of u v) (kept : AreKept ends hops) where
  told : (x y : ℕ) → is_pair (pair_of x y) pair ≡ ((nat_eq x u && nat_eq y v) || (nat_eq x v && nat_eq y u))
  told x y = ap (is_pair (pair_of x y)) same ∙ pairs_told x y u v

  few_more : case < 2 ^ 32 → AddsCase hops pair case hops' → (x y n : ℕ) → has hops' x y n ≡ true → n < 2 ^ 32
  few_more few adds x y n there = elim (or_cases (has hops x y n) (is_pair (pair_of x y) pair && nat_eq n case) (sym (adds (pair_of x y) n) ∙ there)) [
    | inl was ↦ kept.few x y n was
    | inr new ↦
        let e : n ≡ case = exact_unsigned_eq n case (and_parts (is_pair (pair_of x y) pair) (nat_eq n case) new).1 in
        omega (arith, few, e)
  ]

  -- the first case
  pub kept_first : (ends' ends'' : Ends) → case < 2 ^ 32 → AddsCase hops pair case hops'
      → ((p : Pair) → stands hops' p ≡ (stands hops p || is_pair p pair)) → (HaveCases hops → HaveCases hops') → (AreRising hops → AreRising hops')
      → AddsNeighbour ends u v ends' → (HaveNeighbours ends → HaveNeighbours ends') → AddsNeighbour ends' v u ends'' → (HaveNeighbours ends' → HaveNeighbours ends'')
      → AreKept ends'' hops'
  kept_first ends' ends'' few adds stand cases rising one have other have' = record {
    joined = λ x y.
        other x y ∙ ap (λ (b : Bool). b || (nat_eq x v && nat_eq y u)) (one x y ∙ ap (λ (b : Bool). b || (nat_eq x u && nat_eq y v)) (kept.joined x y))
        ∙ or_both (stands hops (pair_of x y)) (nat_eq x u && nat_eq y v) (nat_eq x v && nat_eq y u)
        ∙ ap (λ (b : Bool). stands hops (pair_of x y) || b) (sym (told x y)) ∙ sym (stand (pair_of x y));
    neighbours = have' (have kept.neighbours);
    cases = cases kept.cases;
    rising = rising kept.rising;
    few = few_more few adds;
  }

  few_less : RemovesCase hops pair case hops' → (x y n : ℕ) → has hops' x y n ≡ true → n < 2 ^ 32
  few_less removes x y n there = kept.few x y n (and_parts (has hops x y n) _ (sym (removes (pair_of x y) n) ∙ there)).0

  -- the last case
  pub kept_last : (ends' ends'' : Ends) (last : Bool) → last ≡ true → RemovesCase hops pair case hops'
      → ((p : Pair) → stands hops' p ≡ (stands hops p && not (last && is_pair p pair))) → (HaveCases hops → HaveCases hops') → (AreRising hops → AreRising hops')
      → RemovesNeighbour ends u v ends' → (HaveNeighbours ends → HaveNeighbours ends') → RemovesNeighbour ends' v u ends'' → (HaveNeighbours ends' → HaveNeighbours ends'')
      → AreKept ends'' hops'
  kept_last ends' ends'' last is removes stand cases rising one have other have' = record {
    joined = λ x y.
        other x y ∙ ap (λ (b : Bool). b && not (nat_eq x v && nat_eq y u)) (one x y ∙ ap (λ (b : Bool). b && not (nat_eq x u && nat_eq y v)) (kept.joined x y))
        ∙ and_both (stands hops (pair_of x y)) (nat_eq x u && nat_eq y v) (nat_eq x v && nat_eq y u)
        ∙ ap (λ (b : Bool). stands hops (pair_of x y) && not b) (sym (told x y))
        ∙ ap (λ (b : Bool). stands hops (pair_of x y) && not (b && is_pair (pair_of x y) pair)) (sym is) ∙ sym (stand (pair_of x y));
    neighbours = have' (have kept.neighbours);
    cases = cases kept.cases;
    rising = rising kept.rising;
    few = few_less removes;
  }
