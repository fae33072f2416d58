-- How the verdicts beside the slab keep to the cases.
use Rattle.std.proofs.Common.{◌≡◌, ◌≢◌, ℕ, List, [], None, Some, refl, ap, sym, ◌∙◌, inl, inr}
use Rattle.std.specs.declared.option.Option.{Option}
use Rattle.path_model.specs.declared.verdict.Verdict.{Verdict}
use Rattle.shared_cases.specs.declared.case.StoredCase.{StoredCase}
use Rattle.shared_cases.specs.Cases.{Slots, at, marked_now, verdict_or, Rewrites}
use Rattle.shared_cases.specs.Owning.{owned_of}
use Rattle.shared_cases.specs.Taking.{lowered_by, raised}
use Rattle.shared_cases.specs.Verdicts.{verdict_at, AreVerdictsOf, SetsVerdict}
use Rattle.shared_cases.proofs.NumberLemmas.{decide_eq}

-- no case has none
pub none_verdicts : (cases : Slots) (verdicts : List Verdict) → cases ≡ [] → verdicts ≡ [] → AreVerdictsOf cases verdicts
none_verdicts cases verdicts none empty n = ap (λ (vs : List Verdict). verdict_at vs n) empty ∙ ap (λ (cs : Slots). verdict_or (at cs n)) (sym none)

-- one case is rewritten, and its verdict set
pub rewritten_verdicts : (old new : Slots) (n : ℕ) (v : Option StoredCase) (verdicts verdicts' : List Verdict) → Rewrites old new n v → SetsVerdict verdicts verdicts' n (verdict_or v)
    → AreVerdictsOf old verdicts → AreVerdictsOf new verdicts'
rewritten_verdicts old new n v verdicts verdicts' writes sets are m = elim (decide_eq m n) [
  | inl e ↦ ap (verdict_at verdicts') e ∙ sets.here ∙ ap verdict_or (sym writes.here) ∙ ap (λ (k : ℕ). verdict_or (at new k)) (sym e)
  | inr other ↦ sets.others m other ∙ are m ∙ ap verdict_or (sym (writes.others m other))
]

-- what changes no verdict keeps them, whether it is done to one case or to each
module _ (done : Option StoredCase → Option StoredCase) (same : (c : Option StoredCase) → verdict_or (done c) ≡ verdict_or c) (old new : Slots) (verdicts : List Verdict) (are : AreVerdictsOf old verdicts) where
  one_done : (n : ℕ) → Rewrites old new n (done (at old n)) → AreVerdictsOf new verdicts
  one_done n writes = rewritten_verdicts old new n (done (at old n)) verdicts verdicts writes (record { here = are n ∙ sym (same (at old n)); others = λ _ _. refl }) are

  all_done : ((n : ℕ) → at new n ≡ done (at old n)) → AreVerdictsOf new verdicts
  all_done done_to n = are n ∙ sym (ap verdict_or (done_to n) ∙ same (at old n))

pub raised_verdicts : (old new : Slots) (verdicts : List Verdict) → AreVerdictsOf old verdicts → (n : ℕ) → Rewrites old new n (raised (at old n)) → AreVerdictsOf new verdicts
raised_verdicts = one_done raised same where
  same : (c : Option StoredCase) → verdict_or (raised c) ≡ verdict_or c
  same None = refl
  same (Some c) = refl

pub lowered_verdicts : (k : ℕ) (old new : Slots) (verdicts : List Verdict) → AreVerdictsOf old verdicts → (n : ℕ) → Rewrites old new n (lowered_by k (at old n)) → AreVerdictsOf new verdicts
lowered_verdicts k = one_done (lowered_by k) same where
  same : (c : Option StoredCase) → verdict_or (lowered_by k c) ≡ verdict_or c
  same None = refl
  same (Some c) = refl

pub marked_verdicts : (old new : Slots) (verdicts : List Verdict) → AreVerdictsOf old verdicts → ((n : ℕ) → at new n ≡ marked_now (at old n)) → AreVerdictsOf new verdicts
marked_verdicts = all_done marked_now same where
  same : (c : Option StoredCase) → verdict_or (marked_now c) ≡ verdict_or c
  same None = refl
  same (Some c) = refl

pub owned_verdicts : (asn : ℕ) (old new : Slots) (verdicts : List Verdict) → AreVerdictsOf old verdicts → ((n : ℕ) → at new n ≡ owned_of asn (at old n)) → AreVerdictsOf new verdicts
owned_verdicts asn = all_done (owned_of asn) same where
  same : (c : Option StoredCase) → verdict_or (owned_of asn c) ≡ verdict_or c
  same None = refl
  same (Some c) = refl

-- a case is judged anew, and its verdict set
pub rejudged_verdicts : (old new : Slots) (n : ℕ) (after : Verdict) (verdicts verdicts' : List Verdict) → ((m : ℕ) → m ≢ n → at new m ≡ at old m) → after ≡ verdict_or (at new n)
    → SetsVerdict verdicts verdicts' n after → AreVerdictsOf old verdicts → AreVerdictsOf new verdicts'
rejudged_verdicts old new n after verdicts verdicts' others is sets =
    rewritten_verdicts old new n (at new n) verdicts verdicts' (record { here = refl; others = others }) (record { here = sets.here ∙ is; others = sets.others })
