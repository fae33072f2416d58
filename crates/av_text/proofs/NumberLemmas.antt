-- What digits that are read from the left say of the whole text.
use Rattle.std.proofs.Common.{◌≡◌, ℕ, ◌+◌, ◌*◌, ◌^◌, ◌<◌, ◌≤◌, List, [], ◌∷◌, length, get_or, take, map, decimal, Option, Some, None, IfSome, IfNone, refl, sym, ap, subst, ◌∙◌, arith, ◌⊎◌, inl, inr}
use Rattle.std.specs.Char.{digit_value}
use Rattle.std.specs.List.{All}
use Rattle.std.proofs.lemmas.List.Elements.{All-head, All-tail}
use Rattle.std.specs.Str.Parse.{AllDigits, digits_value}
use Rattle.std.proofs.lemmas.Int.Digits.{digits_value_more, digits_more}
use Rattle.std.proofs.lemmas.Str.Parse.{IsNumeralModel, numerals_by_value, tells_digits, digit_at, digits_value-take-le}
use Rattle.std.proofs.lemmas.Fmt.{decimal_is_IsNumeral, decimal_digit, first_decimal, decimal-digits_value, decimal_injective}
use Rattle.std.proofs.lemmas.Str.{digit_value_digit}
use Rattle.std.proofs.lemmas.Bool.{cases_eq, cases_lt}
use Rattle.av_text.specs.Number.{Is32Bit, IsNumber, IsNoNumber}

-- the front is digits alone, and value is their number
pub record IsReadSoFar (front : List ℕ) (value : ℕ) : Type 0 where
  pub digits : AllDigits 10 front
  pub value_is : value ≡ digits_value 10 front

-- std's words for a numeral
own : IsNumeralModel (AllDigits 10) (digits_value 10)
own = numerals_by_value _ tells_digits

-- what is known of a text that is a number
text_of_number : (text : List ℕ) (n : ℕ) → n < 2 ^ 32 → text ≡ decimal n → (0 < length text) × AllDigits 10 text × (digits_value 10 text ≡ n)
text_of_number text n small e =
    let P : List ℕ → Type 0 = λ ds. (0 < length ds) × AllDigits 10 ds × (digits_value 10 ds ≡ n) in
    let numeral = decimal_is_IsNumeral n (omega arith) in
    let whole : P (decimal n) = (numeral.0.0, numeral.0.1, numeral.1) in
    subst P (sym e) whole

-- a number has a digit
pub no_number-empty : (text : List ℕ) → length text ≡ 0 → IsNoNumber text
no_number-empty text none = λ n small e. let known = text_of_number text n small e in omega arith

-- a zero stands first in `0` alone
pub no_number-zero : (text : List ℕ) → 2 ≤ length text → get_or text 0 0 ≡ 48 → IsNoNumber text
no_number-zero text long zero_first = λ n small e.
    elim (cases_lt n 10) [
      | inl one_digit ↦ let one = ap length (e ∙ decimal_digit n one_digit) in omega arith
      | inr more ↦
          let above : 48 < get_or (decimal n) 0 0 = first_decimal n (omega arith) (omega arith) in
          let same = ap (λ (ds : List ℕ). get_or ds 0 0) e in
          omega arith
    ]

-- a byte that is no digit
pub no_number-other : (text : List ℕ) (i : ℕ) → i < length text → 10 ≤ digit_value (get_or text i 0) → IsNoNumber text
no_number-other text i inside other = λ n small e.
    let known = text_of_number text n small e in
    let range = digit_at text i known.1 inside in
    let value = digit_value_digit (get_or text i 0) range in
    omega arith

-- a front that is too large, with its next digit
pub no_number-large : (text : List ℕ) (i value digit : ℕ) → i < length text → IsReadSoFar (take i text) value → digit_value (get_or text i 0) ≡ digit → 2 ^ 32 ≤ value * 10 + digit → IsNoNumber text
no_number-large text i value digit inside front is large = λ n small e.
    let known = text_of_number text n small e in
    omega (arith, digits_value_more 10 text i inside, digits_value-take-le 10 text (i + 1) (omega arith))

-- one more digit
pub read_more : (text : List ℕ) (i value digit next : ℕ) → i < length text → IsReadSoFar (take i text) value → digit_value (get_or text i 0) ≡ digit → digit < 10 → next ≡ value * 10 + digit → IsReadSoFar (take (i + 1) text) next
read_more text i value digit next inside front is small e = record {
  digits = digits_more 10 text i inside front.digits (omega arith);
  value_is = omega (arith, digits_value_more 10 text i inside);
}

-- all digits are read, and no zero stands before others
pub number-all : (text : List ℕ) (value : ℕ) → AllDigits 10 text → value ≡ digits_value 10 text → value < 2 ^ 32 → 0 < length text → (get_or text 0 0 ≡ 48 → length text ≡ 1) → text ≡ decimal value
number-all text value digits value_is small some first =
    let spelled : decimal (digits_value 10 text) ≡ text = decimal-digits_value own text digits some first (omega arith) in
    sym spelled ∙ ap decimal (sym value_is)

-- a text is digits alone or it is not
digits_or_other : (text : List ℕ) → AllDigits 10 text ⊎ (AllDigits 10 text → ⊥)
digits_or_other [] = inl tt
digits_or_other (byte ∷ bytes) =
    elim (cases_lt (digit_value byte) 10) [
      | inl small ↦ elim (digits_or_other bytes) [ inl digits ↦ inl (small, digits) | inr other ↦ inr (λ h. other h.1) ]
      | inr large ↦ inr (λ h. let small = h.0 in omega arith)
    ]

-- digits spell a number of 32 bits, or none
number_of_digits : (text : List ℕ) → AllDigits 10 text → 0 < length text → digits_value 10 text < 2 ^ 32 → IsNoNumber text ⊎ ((n : ℕ) × (n < 2 ^ 32) × (text ≡ decimal n))
number_of_digits text digits some small =
    let value : ℕ = digits_value 10 text in
    elim (cases_eq (get_or text 0 0) 48) [
      | inl zero ↦ elim (cases_lt 1 (length text)) [
        | inl long ↦ inl (no_number-zero text (omega arith) zero)
        | inr short ↦ inr (value, small, number-all text value digits refl small some (λ _. omega arith))
      ]
      | inr other ↦ inr (value, small, number-all text value digits refl small some (λ zero. absurd (other zero)))
    ]

-- a text spells a number of 32 bits, or none
pub number_or_none : (text : List ℕ) → IsNoNumber text ⊎ ((n : ℕ) × (n < 2 ^ 32) × (text ≡ decimal n))
number_or_none text =
    elim (digits_or_other text) [
      | inr other ↦ inl (λ n small e. other (text_of_number text n small e).1)
      | inl digits ↦ elim (cases_lt 0 (length text)) [
        | inr none ↦ inl (no_number-empty text (omega arith))
        | inl some ↦ elim (cases_lt (digits_value 10 text) (2 ^ 32)) [
          | inl small ↦ number_of_digits text digits some small
          | inr large ↦ inl (λ n small e. let known = text_of_number text n small e in omega arith)
        ]
      ]
    ]

-- the number that was put is the one that is read
pub number_again : (text : List ℕ) (read : Option ℕ) → IfSome read (λ n. n ≡ digits_value 10 text) → IfNone read (IsNoNumber text) → (n : ℕ) → IsNumber text n → read ≡ Some n
number_again text (Some m) is none n put = let known = text_of_number text n put.0 put.1 in ap Some (is ∙ known.2)
number_again text None is none n put = absurd (none n put.0 put.1)

-- what `read_u32` needs
pub ruleset number_steps = (no_number-empty, no_number-zero, number-all)

-- what `read_digits` needs
pub ruleset digit_steps = (no_number-other, no_number-large, read_more)

-- two lists of numbers of 32 bits with the same texts are equal
pub map-decimal_injective : (ms ns : List ℕ) → All Is32Bit ms → All Is32Bit ns → map decimal ms ≡ map decimal ns → ms ≡ ns
map-decimal_injective [] [] all_m all_n same = refl
map-decimal_injective [] (n ∷ ns) all_m all_n same = cc
map-decimal_injective (m ∷ ms) [] all_m all_n same = cc
map-decimal_injective (m ∷ ms) (n ∷ ns) all_m all_n same =
    let small_m : m < 2 ^ 32 = All-head Is32Bit m ms all_m in
    let small_n : n < 2 ^ 32 = All-head Is32Bit n ns all_n in
    let text : decimal m ≡ decimal n = cc in
    let texts : map decimal ms ≡ map decimal ns = cc in
    let first : m ≡ n = decimal_injective m n (omega arith) (omega arith) text in
    let rest : ms ≡ ns = map-decimal_injective ms ns (All-tail Is32Bit m ms all_m) (All-tail Is32Bit n ns all_n) texts in
    cc
