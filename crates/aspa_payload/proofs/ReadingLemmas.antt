-- From the content to the bytes.
use Rattle.std.proofs.Common.{◌≡◌, ℕ, List, [], ◌∷◌, Bool, true, false, ltb, length, refl, sym, ap, ◌∙◌, subst, arith, suc, ◌==◌, IfOk, IfErr, Option, Some}
use Rattle.std.proofs.lemmas.Bool.{ltb-true, ltb-false, eqb-true, false≢true}
use Rattle.std.specs.declared.result.Result.{Result}
use Rattle.std.specs.declared.result.Result.TheVariants.{Ok, Err}
use Rattle.std.specs.List.{IsAllAdjacentAnswer}
use Rattle.std.specs.List.Sorted.{IsStrictlyIncreasing}
use Rattle.der_reader.specs.Value.{Begins}
use Rattle.der_reader.proofs.FrontLemmas.{one_front}
use Rattle.aspa_payload.specs.Content.{IsContent, Says}
use Rattle.path_model.specs.Union.{Attestation}
use Rattle.aspa_payload.specs.Payload.{IsPayload, IsUnfit}
use Rattle.aspa_payload.specs.Reading.{IsContentRefused, IsRefused, IsWhole, IsReading}
use Rattle.aspa_payload.specs.Answers.{Answers, IsContentReading, MemoryOr}
use Rattle.aspa_payload.proofs.AnswerLemmas.{memory_or}
use Rattle.aspa_payload.specs.declared.content.Parts.{Parts}
use Rattle.aspa_payload.specs.declared.fault.PayloadFault.{PayloadFault}
use Rattle.aspa_payload.specs.declared.fault.PayloadFault.TheVariants.{NotDer, Version, NoProviders, Order, SelfProvider, Base64, Moment, NoMemory}

-- parts with the version 1 are what the content says
pub says_parts : (content : List ℕ) (parts : Parts) → IsContent content parts → parts.version ≡ Some 1
    → Says content (record { customer = parts.customer; providers = parts.providers })
says_parts content parts h e = subst (λ (v : Option ℕ). IsContent content (record { version = v; customer = parts.customer; providers = parts.providers })) e h

-- a content that says an attestation, of which a payload is made or not
pub made_answer : (content : List ℕ) (a : Attestation) → Says content a → (r : Result Attestation PayloadFault)
    → IfOk r (λ p. p ≡ a) → IfOk r IsPayload → IfErr r (IsUnfit a) → Answers (IsContentReading content) r
made_answer content a says (Ok p) is fit unfit = (subst (Says content) (sym is) says, fit)
made_answer content a says (Err NoMemory) is fit unfit = tt
made_answer content a says (Err NotDer) is fit unfit = absurd unfit
made_answer content a says (Err Version) is fit unfit = absurd unfit
made_answer content a says (Err Base64) is fit unfit = absurd unfit
made_answer content a says (Err Moment) is fit unfit = absurd unfit
made_answer content a says (Err NoProviders) is fit unfit = (a, says, unfit)
made_answer content a says (Err Order) is fit unfit = (a, says, unfit)
made_answer content a says (Err SelfProvider) is fit unfit = (a, says, unfit)

-- what the one content breaks, the bytes break
pub refused_outer : (Outer : List ℕ → List ℕ → Type 0) (one : (c d x y : List ℕ) → Outer c x → Outer d y → c ≡ d) (content rest : List ℕ)
    → Outer content rest → (f : PayloadFault) → IsContentRefused content f → IsRefused Outer f
refused_outer Outer one content rest outer NotDer h = λ c x o parts s. h parts (subst (λ (b : List ℕ). IsContent b parts) (one c content x rest o outer) s)
refused_outer Outer one content rest outer Version h = (content, (rest, outer, h))
refused_outer Outer one content rest outer NoProviders h = (content, (rest, outer, h))
refused_outer Outer one content rest outer Order h = (content, (rest, outer, h))
refused_outer Outer one content rest outer SelfProvider h = (content, (rest, outer, h))
refused_outer Outer one content rest outer Base64 h = (content, (rest, outer, h))
refused_outer Outer one content rest outer Moment h = (content, (rest, outer, h))
refused_outer Outer one content rest outer NoMemory h = (content, (rest, outer, h))

pub whole_one : (bytes c d x y : List ℕ) → IsWhole bytes c x → IsWhole bytes d y → c ≡ d
whole_one bytes c d x y s t = (one_front 48 bytes c d x y s.0 t.0).0

pub whole_answer : (bytes content rest : List ℕ) → Begins 48 bytes content rest → rest ≡ []
    → (r : Result Attestation PayloadFault) → Answers (IsContentReading content) r → Answers (IsReading bytes) r
whole_answer bytes content rest begins end (Ok a) h = record { content = content; begins = subst (λ (x : List ℕ). Begins 48 bytes content x) end begins; says = h.0; fit = h.1 }
whole_answer bytes content rest begins end (Err fault) h = memory_or fault _ _ (refused_outer (IsWhole bytes) (whole_one bytes) content rest (begins, end) fault) h

pub unit_refused : (bytes content rest : List ℕ) → Begins 48 bytes content rest → (fault : PayloadFault)
    → MemoryOr fault (IsContentRefused content fault) → MemoryOr fault (IsRefused (Begins 48 bytes) fault)
unit_refused bytes content rest begins fault h =
    memory_or fault _ _ (refused_outer (Begins 48 bytes) (λ c d x y s t. (one_front 48 bytes c d x y s t).0) content rest begins fault) h

pub ascends : (xs : List ℕ) (r : Bool) → IsAllAdjacentAnswer (λ x y b. b ≡ ltb x y) xs r
    → (r ≡ true → IsStrictlyIncreasing xs) × (IsStrictlyIncreasing xs → r ≡ true)
ascends xs true h = (λ _ k l. ltb-true _ _ (sym (h k 0 l)), λ _. refl)
ascends xs false h =
    (λ e. absurd (false≢true e), λ s. absurd (let lt = s h.0 h.1 in let not = ltb-false _ _ (sym (h.2 0)) in omega arith))

-- what an empty slice is
pub empty_if : (xs : List ℕ) (b : Bool) → b ≡ (length xs == 0) → b ≡ true → xs ≡ []
empty_if [] b e t = refl
empty_if (x ∷ xs) b e t = absurd (let zero : suc (length xs) ≡ 0 = eqb-true _ _ (sym e ∙ t) in omega arith)

pub some_if : (xs : List ℕ) (b : Bool) → b ≡ (length xs == 0) → b ≡ false → xs ≡ [] → ⊥
some_if xs b e f none = let zero : (length xs == 0) ≡ true = ap (λ (ys : List ℕ). length ys == 0) none in false≢true (sym f ∙ e ∙ zero)
