-- One case of a hop more or less.
use Rattle.std.proofs.Common.{◌≡◌, ◌≢◌, ℕ, nat_eq, Bool, true, false, cond, not, ◌||◌, ◌&&◌, List, [], None, Some, refl, ap, sym, subst, ◌∙◌, inl, inr, ◌⊎◌, true≢false}
use Rattle.std.specs.declared.option.Option.{Option}
use Rattle.std.specs.List.Sorted.{IsStrictlySortedBy}
use Rattle.std.specs.Ordering.{nat_cmp}
use Rattle.hop_index.specs.declared.pair.Pair.{Pair}
use Rattle.hop_index.specs.Lists.{Lists, at}
use Rattle.hop_index.specs.Kept.{stands, is_pair, is_there, Updates, AddsCase, RemovesCase, HaveCases, AreRising}
use Rattle.hop_index.specs.Numbers.{has_number, numbers_or, found_has}
use Rattle.hop_index.proofs.PairLemmas.{pair_at, same_pair, pair_itself}

or_none : (b : Bool) → b ≡ (b || false)
or_none true = refl
or_none false = refl

or_some : (b : Bool) → true ≡ (b || true)
or_some true = refl
or_some false = refl

and_all : (b : Bool) → b ≡ (b && true)
and_all true = refl
and_all false = refl

module _ (before after : Lists) (pair : Pair) (now : Option (List ℕ)) (updates : Updates before pair now after) where
  told_by : (p : Pair) (b : Bool) → is_pair p pair ≡ b → (b ≡ true × (at after p ≡ now) × (at before p ≡ at before pair)) ⊎ (b ≡ false × (at after p ≡ at before p))
  told_by p true is = inl (
    refl,
    updates p ∙ ap (λ (b : Bool). cond b now (at before p)) (pair_at pair p ∙ is),
    ap (at before) (same_pair p pair is),
  )
  told_by p false is = inr (refl, updates p ∙ ap (λ (b : Bool). cond b now (at before p)) (pair_at pair p ∙ is))

  told : (p : Pair) → (is_pair p pair ≡ true × (at after p ≡ now) × (at before p ≡ at before pair)) ⊎ (is_pair p pair ≡ false × (at after p ≡ at before p))
  told p = told_by p (is_pair p pair) refl

  pub case_more : (case : ℕ) → ((n : ℕ) → found_has now n ≡ (found_has (at before pair) n || nat_eq n case)) → AddsCase before pair case after
  case_more case more p n = elim (told p) [
    | inl h ↦
        ap (λ (o : Option (List ℕ)). found_has o n) h.1 ∙ more n ∙ ap (λ (o : Option (List ℕ)). found_has o n || nat_eq n case) (sym h.2)
        ∙ ap (λ (b : Bool). found_has (at before p) n || (b && nat_eq n case)) (sym h.0)
    | inr h ↦
        ap (λ (o : Option (List ℕ)). found_has o n) h.1 ∙ or_none (found_has (at before p) n)
        ∙ ap (λ (b : Bool). found_has (at before p) n || (b && nat_eq n case)) (sym h.0)
  ]

  pub case_less : (case : ℕ) → ((n : ℕ) → found_has now n ≡ (found_has (at before pair) n && not (nat_eq n case))) → RemovesCase before pair case after
  case_less case less p n = elim (told p) [
    | inl h ↦
        ap (λ (o : Option (List ℕ)). found_has o n) h.1 ∙ less n ∙ ap (λ (o : Option (List ℕ)). found_has o n && not (nat_eq n case)) (sym h.2)
        ∙ ap (λ (b : Bool). found_has (at before p) n && not (b && nat_eq n case)) (sym h.0)
    | inr h ↦
        ap (λ (o : Option (List ℕ)). found_has o n) h.1 ∙ and_all (found_has (at before p) n)
        ∙ ap (λ (b : Bool). found_has (at before p) n && not (b && nat_eq n case)) (sym h.0)
  ]

  pub stands_more : is_there now ≡ true → (p : Pair) → stands after p ≡ (stands before p || is_pair p pair)
  stands_more there p = elim (told p) [
    | inl h ↦ ap is_there h.1 ∙ there ∙ or_some (stands before p) ∙ ap (λ (b : Bool). stands before p || b) (sym h.0)
    | inr h ↦ ap is_there h.1 ∙ or_none (stands before p) ∙ ap (λ (b : Bool). stands before p || b) (sym h.0)
  ]

  pub stands_still : is_there now ≡ is_there (at before pair) → (p : Pair) → stands after p ≡ stands before p
  stands_still same p = elim (told p) [
    | inl h ↦ ap is_there h.1 ∙ same ∙ ap is_there (sym h.2)
    | inr h ↦ ap is_there h.1
  ]

  pub others_stay : (p : Pair) → p ≢ pair → at after p ≡ at before p
  others_stay p other = elim (told p) [
    | inl h ↦ absurd (other (same_pair p pair h.0))
    | inr h ↦ h.1
  ]

  pub here_now : at after pair ≡ now
  here_now = elim (told pair) [
    | inl h ↦ h.1
    | inr h ↦ absurd (true≢false (sym (pair_itself pair) ∙ h.0))
  ]

  pub have_cases : now ≢ Some [] → ((p : Pair) → p ≢ pair → at before p ≢ Some []) → HaveCases after
  have_cases some have p none = elim (told p) [
    | inl h ↦ some (sym h.1 ∙ none)
    | inr h ↦ have p (λ e. true≢false (sym (pair_itself pair) ∙ ap (λ (q : Pair). is_pair q pair) (sym e) ∙ h.0)) (sym h.1 ∙ none)
  ]

  pub are_rising : IsStrictlySortedBy nat_cmp (numbers_or now) → AreRising before → AreRising after
  are_rising rises rising p = elim (told p) [
    | inl h ↦ subst (λ (o : Option (List ℕ)). IsStrictlySortedBy nat_cmp (numbers_or o)) (sym h.1) rises
    | inr h ↦ subst (λ (o : Option (List ℕ)). IsStrictlySortedBy nat_cmp (numbers_or o)) (sym h.1) (rising p)
  ]

pub none_rise : IsStrictlySortedBy nat_cmp []
unfolding IsStrictlySortedBy
none_rise = tt

-- the first case
pub one_more : (empty numbers : List ℕ) (before : Option (List ℕ)) (case : ℕ) → empty ≡ [] → before ≡ None → ((n : ℕ) → has_number numbers n ≡ (has_number empty n || nat_eq n case))
    → (n : ℕ) → found_has (Some numbers) n ≡ (found_has before n || nat_eq n case)
one_more empty numbers before case is none more n =
    more n ∙ ap (λ (ns : List ℕ). has_number ns n || nat_eq n case) is ∙ ap (λ (o : Option (List ℕ)). found_has o n || nat_eq n case) (sym none)
