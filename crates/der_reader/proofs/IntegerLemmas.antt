-- Each number has one content.
use Rattle.std.proofs.Common.{◌≡◌, ℕ, zero, suc, ◌+◌, ◌-◌, ◌*◌, ◌<◌, ◌≤◌, ◌⊎◌, inl, inr, List, [], ◌∷◌, length, get_or, refl, sym, ◌∙◌, subst, arith, Bool, true, false, ltb}
use Rattle.std.proofs.lemmas.Bool.{ltb-true, ltb-false}
use Rattle.der_reader.specs.Number.{IsBytes, number, number_from}
use Rattle.der_reader.specs.Integer.{IsInteger, IsShortest}

-- numbers in as many bytes that are the same have the same bytes
pub same_digits : (m n : ℕ) (a b : List ℕ) → IsBytes a → IsBytes b → length a ≡ length b → number_from m a ≡ number_from n b
    → (m ≡ n) × (a ≡ b)
same_digits m n [] [] p q l e = (e, refl)
same_digits m n [] (y ∷ b) p q l e = absurd (omega arith)
same_digits m n (x ∷ a) [] p q l e = absurd (omega arith)
same_digits m n (x ∷ a) (y ∷ b) p q l e =
    let rest = same_digits (m * 256 + x) (n * 256 + y) a b (λ i. p (suc i)) (λ i. q (suc i)) (omega arith) e in
    let low : x < 256 = p 0 in
    let low' : y < 256 = q 0 in
    let head : x ≡ y = omega (arith, rest.0) in
    (omega (arith, rest.0), rw (head, rest.1) refl)

-- zeros at the front change no number
abbrev pub padded : ℕ → List ℕ → List ℕ
padded zero a = a
padded (suc k) a = 0 ∷ padded k a

pub number-padded : (k : ℕ) (a : List ℕ) → number (padded k a) ≡ number a
number-padded zero a = refl
number-padded (suc k) a = number-padded k a

pub length-padded : (k : ℕ) (a : List ℕ) → length (padded k a) ≡ k + length a
length-padded zero a = omega arith
length-padded (suc k) a = let more = length-padded k a in omega (arith, more)

pub bytes-padded : (k : ℕ) (a : List ℕ) → IsBytes a → IsBytes (padded k a)
bytes-padded zero a h i = h i
bytes-padded (suc k) a h zero = omega arith
bytes-padded (suc k) a h (suc i) = bytes-padded k a h i

-- a shortest content has no zero too many
not_padded : (k : ℕ) (a b : List ℕ) → padded k a ≡ b → get_or a 0 0 < 128 → IsShortest a → IsShortest b → a ≡ b
not_padded zero a b e positive s t = e
not_padded (suc zero) [] b e positive s t = absurd s
not_padded (suc zero) (x ∷ a) b e positive s t = let high : 128 ≤ x = subst IsShortest (sym e) t refl in absurd (omega arith)
not_padded (suc (suc k)) a b e positive s t = let high : 128 ≤ 0 = subst IsShortest (sym e) t refl in absurd (omega arith)

one_longer : (a b : List ℕ) (n : ℕ) → IsBytes a → IsBytes b → IsInteger a n → IsInteger b n → length a ≤ length b → a ≡ b
one_longer a b n p q s t h =
    let k : ℕ = length b - length a in
    let l : length (padded (length b - length a) a) ≡ length b = omega (arith, length-padded (length b - length a) a) in
    let same = same_digits 0 0 (padded (length b - length a) a) b (bytes-padded (length b - length a) a p) q l (number-padded (length b - length a) a ∙ s.value ∙ sym t.value) in
    not_padded (length b - length a) a b same.1 s.positive s.shortest t.shortest

pub side : (m n : ℕ) (b : Bool) → ltb m n ≡ b → (m ≤ n) ⊎ (n ≤ m)
side m n true e = let lt = ltb-true m n e in inl (omega arith)
side m n false e = inr (ltb-false m n e)

pub one_integer : (a b : List ℕ) (n : ℕ) → IsBytes a → IsBytes b → IsInteger a n → IsInteger b n → a ≡ b
one_integer a b n p q s t =
    elim (side (length a) (length b) (ltb (length a) (length b)) refl) [ inl h ↦ one_longer a b n p q s t h | inr h ↦ sym (one_longer b a n q p t s h) ]
