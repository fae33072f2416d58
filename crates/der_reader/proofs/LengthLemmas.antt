-- Each length has one spelling, and so has a value of a content. Proofs above cite these.
use Rattle.std.proofs.Common.{◌≡◌, ℕ, zero, suc, ◌+◌, ◌-◌, ◌<◌, ◌≤◌, inl, inr, List, ◌∷◌, ◌++◌, length, slice_index, ltb, refl, sym, ap, ◌∙◌, subst, arith}
use Rattle.der_reader.specs.Number.{IsBytes}
use Rattle.der_reader.specs.Integer.{TakesInteger}
use Rattle.der_reader.specs.Value.{IsNumeral, IsLong, IsLength, Spells, Begins}
use Rattle.der_reader.proofs.BytesLemmas.{octets_bytes, value_bytes, content_bytes}
use Rattle.der_reader.proofs.IntegerLemmas.{padded, number-padded, length-padded, bytes-padded, same_digits, side, one_integer}

-- a numeral has no zero at its front
no_zero : (k : ℕ) (a b : List ℕ) → padded k a ≡ b → 0 < slice_index b 0 → a ≡ b
no_zero zero a b e leading = e
no_zero (suc k) a b e leading = let first : 0 ≡ slice_index b 0 = ap (λ (l : List ℕ). slice_index l 0) e in absurd (omega arith)

longer_numeral : (a b : List ℕ) (n : ℕ) → IsBytes a → IsBytes b → IsNumeral a n → IsNumeral b n → length a ≤ length b → a ≡ b
longer_numeral a b n p q s t h =
    let k : ℕ = length b - length a in
    let l : length (padded (length b - length a) a) ≡ length b = omega (arith, length-padded (length b - length a) a) in
    let same = same_digits 0 0 (padded (length b - length a) a) b (bytes-padded (length b - length a) a p) q l (number-padded (length b - length a) a ∙ s.value ∙ sym t.value) in
    no_zero (length b - length a) a b same.1 t.leading

one_numeral : (a b : List ℕ) (n : ℕ) → IsBytes a → IsBytes b → IsNumeral a n → IsNumeral b n → a ≡ b
one_numeral a b n p q s t =
    elim (side (length a) (length b) (ltb (length a) (length b)) refl) [ inl h ↦ longer_numeral a b n p q s t h | inr h ↦ sym (longer_numeral b a n q p t s h) ]

digits_bytes : (n : ℕ) (octets : List ℕ) (l : IsLong n octets) → IsBytes octets → IsBytes l.digits
digits_bytes n octets l bytes i = let all : IsBytes ((length l.digits + 128) ∷ l.digits) = subst IsBytes l.whole bytes in all (suc i)

one_length : (n : ℕ) (a b : List ℕ) → IsBytes a → IsBytes b → IsLength n a → IsLength n b → a ≡ b
one_length n a b p q (inl s) (inl t) = s.1 ∙ sym t.1
one_length n a b p q (inl s) (inr t) = let small = s.0 in let big = t.big in absurd (omega arith)
one_length n a b p q (inr s) (inl t) = let small = t.0 in let big = s.big in absurd (omega arith)
one_length n a b p q (inr s) (inr t) =
    let same = one_numeral s.digits t.digits n (digits_bytes n a s p) (digits_bytes n b t q) s.numeral t.numeral in
    s.whole ∙ ap (λ (d : List ℕ). (length d + 128) ∷ d) same ∙ sym t.whole

-- a content has one spelling under a tag
pub one_spelling_of : (tag : ℕ) (content a b : List ℕ) → IsBytes a → IsBytes b → Spells tag content a → Spells tag content b → a ≡ b
one_spelling_of tag content a b p q s t =
    s.whole
    ∙ ap (λ (o : List ℕ). tag ∷ o ++ content) (one_length (length content) s.octets t.octets (octets_bytes tag content a s p) (octets_bytes tag content b t q) s.length_is t.length_is)
    ∙ sym t.whole

-- what stands before the same rest is the one spelling of the value, or of the INTEGER
pub one_value_before : (tag : ℕ) (a b content rest : List ℕ) → IsBytes a → IsBytes b → Begins tag a content rest → Begins tag b content rest → a ≡ b
one_value_before tag a b content rest p q s t =
    s.whole
    ∙ ap (λ (front : List ℕ). front ++ rest) (one_spelling_of tag content s.front t.front (value_bytes tag a content rest s p) (value_bytes tag b content rest t q) s.spelled t.spelled)
    ∙ sym t.whole

pub one_integer_before : (a b : List ℕ) (n : ℕ) (rest : List ℕ) → IsBytes a → IsBytes b → TakesInteger a n rest → TakesInteger b n rest → a ≡ b
one_integer_before a b n rest p q s t =
    let same = one_integer s.content t.content n (content_bytes 2 a s.content rest s.begins p) (content_bytes 2 b t.content rest t.begins q) s.value t.value in
    one_value_before 2 a b t.content rest p q (subst (λ (c : List ℕ). Begins 2 a c rest) same s.begins) t.begins
