-- Text and counts of routers, one more behind others.
use Rattle.std.proofs.Common.{◌≡◌, ℕ, zero, suc, ◌+◌, ◌⊎◌, inl, inr, List, [], ◌∷◌, ◌++◌, length, Some, refl, sym, ap, ◌∙◌, arith, append_assoc, append-nil}
use Rattle.std.specs.Prelude.{slice_get}
use Rattle.std.specs.Io.KnownBytes.{append_known}
use Rattle.std.specs.declared.option.Option.{Option}
use Rattle.av_base.proofs.ToldLemmas.{append_known-append}
use Rattle.rtr_server.specs.declared.outcome.Outcome.{Outcome}
use Rattle.rtr_server.specs.Outcomes.{all_answers, all_lines, lines_in, outcome_text, outcomes_text}

pub outcomes_text-push : (line : ℕ) (outcomes : List Outcome) (out : Outcome) → outcomes_text line (outcomes ++ out ∷ []) ≡ outcomes_text line outcomes ++ outcome_text line out
outcomes_text-push line [] out = append-nil (outcome_text line out)
outcomes_text-push line (first ∷ more) out =
    ap (λ (l : List ℕ). outcome_text line first ++ l) (outcomes_text-push line more out) ∙ sym (append_assoc (outcome_text line first) (outcomes_text line more) (outcome_text line out))

pub all_answers-push : (outcomes : List Outcome) (out : Outcome) → all_answers (outcomes ++ out ∷ []) ≡ all_answers outcomes + out.answers
all_answers-push [] out = omega arith
all_answers-push (first ∷ more) out = omega (arith, all_answers-push more out)

pub all_lines-push : (outcomes : List Outcome) (out : Outcome) → all_lines (outcomes ++ out ∷ []) ≡ all_lines outcomes + lines_in out
all_lines-push [] out = omega arith
all_lines-push (first ∷ more) out = omega (arith, all_lines-push more out)

-- an item is one of those before, or the one more
pub push_cases : {A : Type 0} (xs : List A) (x y : A) (k : ℕ) → slice_get (xs ++ x ∷ []) k ≡ Some y → (slice_get xs k ≡ Some y) ⊎ ((k ≡ length xs) × (y ≡ x))
push_cases [] x y zero is = inr (refl, (let e : y ≡ x = cc in e))
push_cases [] x y (suc k) is = let none : ⊥ = cc in absurd none
push_cases (z ∷ xs) x y zero is = inl is
push_cases (z ∷ xs) x y (suc k) is = elim (push_cases xs x y k is) [ inl before ↦ inl before | inr last ↦ inr (ap suc last.0, last.1) ]

-- ---- what was written and is held

pub text_more : (old new : Option (List ℕ)) (held_old held text piece : List ℕ) → append_known new held ≡ append_known old held_old → text ≡ held ++ piece → append_known new text ≡ append_known (append_known old held_old) piece
text_more old new held_old held text piece same is = ap (append_known new) is ∙ sym (append_known-append new held piece) ∙ ap (λ (m : Option (List ℕ)). append_known m piece) same

pub text_same : (old new : Option (List ℕ)) (held_old held text : List ℕ) → append_known new held ≡ append_known old held_old → text ≡ held → append_known new text ≡ append_known old held_old
text_same old new held_old held text same is = ap (append_known new) is ∙ same
