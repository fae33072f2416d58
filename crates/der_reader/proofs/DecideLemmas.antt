-- Some value or INTEGER stands at the front of any bytes, or none does.
use Rattle.std.proofs.Common.{◌≡◌, ℕ, zero, suc, ◌≤◌, ◌^◌, ◌⊎◌, inl, inr, Bool, true, false, ltb, List, [], ◌∷◌, slice_index, refl, subst, arith}
use Rattle.std.proofs.lemmas.Bool.{ltb-true, ltb-false}
use Rattle.std.specs.declared.result.Result.{Result}
use Rattle.std.specs.declared.result.Result.TheVariants.{Ok, Err}
use Rattle.der_reader.specs.Number.{number}
use Rattle.der_reader.specs.Value.{Begins, BeginsNone}
use Rattle.der_reader.specs.Integer.{IsShortest, IsInteger, TakesInteger, TakesNone}
use Rattle.der_reader.specs.Fault.{value_at}
use Rattle.der_reader.specs.declared.fault.DerFault.{DerFault}
use Rattle.der_reader.proofs.GivenLemmas.{value_found}
use Rattle.der_reader.proofs.AnswerLemmas.{refused}
use Rattle.der_reader.proofs.FrontLemmas.{one_front}

value_by : (tag : ℕ) (bytes : List ℕ) (r : Result (List ℕ × List ℕ) DerFault) → value_at tag bytes ≡ r
    → ((found : List ℕ × List ℕ) × Begins tag bytes found.0 found.1) ⊎ BeginsNone tag bytes
value_by tag bytes (Ok found) e = inl (found, value_found tag bytes found e)
value_by tag bytes (Err d) e = inr (refused tag bytes d e)

pub value_or_none : (tag : ℕ) (bytes : List ℕ)
    → ((found : List ℕ × List ℕ) × Begins tag bytes found.0 found.1) ⊎ BeginsNone tag bytes
value_or_none tag bytes = value_by tag bytes (value_at tag bytes) refl

high_or_low : (c : ℕ) (bs : List ℕ) (r : Bool) → ltb c 128 ≡ r → IsShortest (0 ∷ c ∷ bs) ⊎ (IsShortest (0 ∷ c ∷ bs) → ⊥)
high_or_low c bs true e = inr (λ s. let high : 128 ≤ c = s refl in let low = ltb-true c 128 e in absurd (omega arith))
high_or_low c bs false e = inl (λ z. ltb-false c 128 e)

shortest_or_not : (content : List ℕ) → IsShortest content ⊎ (IsShortest content → ⊥)
shortest_or_not [] = inr (λ s. s)
shortest_or_not (b ∷ []) = inl tt
shortest_or_not (zero ∷ c ∷ bs) = high_or_low c bs (ltb c 128) refl
shortest_or_not (suc b ∷ c ∷ bs) = inl (λ e. absurd (omega arith))

-- a content is the number that its bytes are, or none
integer_by : (content : List ℕ) → IsShortest content ⊎ (IsShortest content → ⊥) → (p q : Bool)
    → ltb (slice_index content 0) 128 ≡ p → ltb (number content) (2 ^ 32) ≡ q
    → IsInteger content (number content) ⊎ ((n : ℕ) → IsInteger content n → ⊥)
integer_by content (inr long) p q e f = inr (λ n i. long i.shortest)
integer_by content (inl short) false q e f = inr (λ n i. let positive = i.positive in let not = ltb-false _ _ e in absurd (omega arith))
integer_by content (inl short) true false e f =
    inr (λ n i. let value = i.value in let small = i.small in let big = ltb-false _ _ f in absurd (omega arith))
integer_by content (inl short) true true e f = inl (record { shortest = short; positive = ltb-true _ _ e; value = refl; small = ltb-true _ _ f })

integer_or_not : (content : List ℕ) → IsInteger content (number content) ⊎ ((n : ℕ) → IsInteger content n → ⊥)
integer_or_not content = integer_by content (shortest_or_not content) (ltb (slice_index content 0) 128) (ltb (number content) (2 ^ 32)) refl refl

taken_by : (bytes : List ℕ) (found : List ℕ × List ℕ) → Begins 2 bytes found.0 found.1
    → IsInteger found.0 (number found.0) ⊎ ((n : ℕ) → IsInteger found.0 n → ⊥)
    → ((taken : ℕ × List ℕ) × TakesInteger bytes taken.0 taken.1) ⊎ TakesNone bytes
taken_by bytes found begins (inl is) = inl ((number found.0, found.1), record { content = found.0; begins = begins; value = is })
taken_by bytes found begins (inr none) = inr (λ n rest t.
    none n (subst (λ (c : List ℕ). IsInteger c n) (one_front 2 bytes t.content found.0 rest found.1 t.begins begins).0 t.value))

by_value : (bytes : List ℕ) → ((found : List ℕ × List ℕ) × Begins 2 bytes found.0 found.1) ⊎ BeginsNone 2 bytes
    → ((taken : ℕ × List ℕ) × TakesInteger bytes taken.0 taken.1) ⊎ TakesNone bytes
by_value bytes (inl v) = taken_by bytes v.0 v.1 (integer_or_not v.0.0)
by_value bytes (inr none) = inr (λ n rest t. none t.content rest t.begins)

pub integer_or_none : (bytes : List ℕ) → ((taken : ℕ × List ℕ) × TakesInteger bytes taken.0 taken.1) ⊎ TakesNone bytes
integer_or_none bytes = by_value bytes (value_or_none 2 bytes)
