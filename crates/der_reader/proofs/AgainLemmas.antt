-- What is spelled so is given by the rules, whatever follows it.
use Rattle.std.proofs.Common.{◌≡◌, ℕ, ◌+◌, ◌-◌, ◌<◌, ◌≤◌, inl, inr, true, false, ltb, List, [], ◌∷◌, ◌++◌, length, get_or, refl, ap, ◌∙◌, append_assoc, length-append, ◌==◌, arith}
use Rattle.std.proofs.Math.Seq.{take-append_seam, drop-append_seam}
use Rattle.std.proofs.lemmas.Bool.{false_from_ne_true, lt-ltb, le-ltb, eq-eqb, eqb-true}
use Rattle.std.specs.declared.result.Result.TheVariants.{Ok}
use Rattle.der_reader.specs.Value.{IsNumeral, IsLength, Spells, Begins}
use Rattle.der_reader.specs.Fault.{long_length_at, length_at, content_at, value_at}

content_again : (c rest : List ℕ) → content_at (length c) (c ++ rest) ≡ Ok (c, rest)
content_again c rest =
    let fits : ltb (length (c ++ rest)) (length c) ≡ false = le-ltb _ _ (rw length-append (omega arith)) in
    rw (fits, take-append_seam, drop-append_seam) refl

some_digits : (digits : List ℕ) → 0 < get_or digits 0 0 → 0 < length digits
some_digits [] h = absurd (omega arith)
some_digits (d ∷ ds) h = omega arith

is_not_zero : (n : ℕ) → 0 < n → (n == 0) ≡ false
is_not_zero n h = false_from_ne_true (n == 0) (λ e. let zero : n ≡ 0 = eqb-true n 0 e in absurd (omega arith))

long_again : (digits rest : List ℕ) (n : ℕ) → IsNumeral digits n → 128 ≤ n
    → long_length_at (length digits) (digits ++ rest) ≡ Ok (n, rest)
long_again digits rest n numeral big =
    let fits : ltb (length (digits ++ rest)) (length digits) ≡ false = le-ltb _ _ (rw length-append (omega arith)) in
    let first : (get_or digits 0 0 == 0) ≡ false = is_not_zero _ numeral.leading in
    let enough : ltb n 128 ≡ false = le-ltb _ _ big in
    rw (fits, take-append_seam, drop-append_seam, first, numeral.value, enough) refl

first_again : (k n : ℕ) (digits rest : List ℕ) → 0 < k → k ≤ 4 → long_length_at k (digits ++ rest) ≡ Ok (n, rest)
    → length_at ((k + 128) ∷ digits ++ rest) ≡ Ok (n, rest)
first_again k n digits rest some few e =
    let a : ltb (k + 128) 128 ≡ false = le-ltb _ _ (omega arith) in
    let b : ltb 128 (k + 128) ≡ true = lt-ltb _ _ (omega arith) in
    let d : ltb (k + 128) 133 ≡ true = lt-ltb _ _ (omega arith) in
    let back : k + 128 - 128 ≡ k = omega arith in
    rw (a, b, d, back) e

length_again : (n : ℕ) (octets rest : List ℕ) → IsLength n octets → length_at (octets ++ rest) ≡ Ok (n, rest)
length_again n octets rest (inl h) =
    let small : ltb n 128 ≡ true = lt-ltb _ _ h.0 in
    rw h.1 (rw small refl)
length_again n octets rest (inr h) =
    rw h.whole (first_again (length h.digits) n h.digits rest (some_digits _ h.numeral.leading) h.few (long_again h.digits rest n h.numeral h.big))

pub value_again : (tag : ℕ) (content front rest : List ℕ) → Spells tag content front
    → value_at tag (front ++ rest) ≡ Ok (content, rest)
value_again tag content front rest s =
    let same : (tag == tag) ≡ true = eq-eqb tag tag refl in
    let whole : front ++ rest ≡ tag ∷ (s.octets ++ (content ++ rest)) = ap (λ (f : List ℕ). f ++ rest) s.whole ∙ ap (λ (r : List ℕ). tag ∷ r) (append_assoc s.octets content rest) in
    ap (value_at tag) whole ∙ rw (same, length_again (length content) s.octets (content ++ rest) s.length_is) (content_again content rest)

pub begins_again : (tag : ℕ) (bytes content rest : List ℕ) → Begins tag bytes content rest
    → value_at tag bytes ≡ Ok (content, rest)
begins_again tag bytes content rest b = ap (value_at tag) b.whole ∙ value_again tag content b.front rest b.spelled
