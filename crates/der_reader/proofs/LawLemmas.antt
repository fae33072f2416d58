-- Each number has one content, and each content one spelling.
use Rattle.std.proofs.Common.{◌≡◌, ℕ, ◌+◌, ◌/◌, ◌%◌, ◌<◌, ◌≤◌, ◌^◌, inl, inr, Bool, true, false, ltb, List, [], ◌∷◌, ◌++◌, length, slice_index, refl, subst, arith}
use Rattle.std.proofs.lemmas.Bool.{ltb-true, ltb-false}
use Rattle.der_reader.specs.Number.{IsBytes, number}
use Rattle.av_base.specs.One.{HasOne}
use Rattle.der_reader.specs.Value.{IsLength}
use Rattle.der_reader.specs.Integer.{IsInteger}
use Rattle.der_reader.specs.Laws.{NoSpellingIsAFrontOfAnother, IsContentOf, IsSpelling, EachContentHasOneSpelling, EachNumberHasOneContent}
use Rattle.der_reader.proofs.FrontLemmas.{one_spelling}
use Rattle.der_reader.proofs.IntegerLemmas.{one_integer}
use Rattle.der_reader.proofs.BytesLemmas.{no_bytes, one_more, both_bytes}
use Rattle.der_reader.proofs.LengthLemmas.{one_spelling_of}
use Rattle.der_reader.proofs.WritingLemmas.{content_1, content_2, content_3, content_4, content_5}

pub no_front : NoSpellingIsAFrontOfAnother
no_front = one_spelling

one_content : (n : ℕ) (content : List ℕ) → IsBytes content → IsInteger content n → HasOne (IsContentOf n)
one_content n content bytes is =
    record { one = content; is = record { bytes = bytes; is = is }; only = λ other o. one_integer other content n o.bytes bytes o.is is }

-- the bytes of a length
record InBytes (n : ℕ) : Type 0 where
  octets : List ℕ
  bytes : IsBytes octets
  is : IsLength n octets

numeral_length : (n : ℕ) (digits : List ℕ) → 128 ≤ n → length digits ≤ 4 → IsBytes digits → number digits ≡ n
    → 0 < slice_index digits 0 → InBytes n
numeral_length n digits big few bytes value leading = record {
  octets = (length digits + 128) ∷ digits;
  bytes = one_more (length digits + 128) digits (omega arith) bytes;
  is = inr (record { big = big; digits = digits; few = few; numeral = record { value = value; leading = leading }; whole = refl });
}

-- a number and its four digits
module _ (n a b c d : ℕ) (h : n < 2 ^ 32) (top : a < 256) (high : b < 256) (low : c < 256) (last : d < 256) (value : number (a ∷ b ∷ c ∷ d ∷ []) ≡ n) where
  bytes_1 : IsBytes (d ∷ [])
  bytes_1 = one_more d [] last no_bytes

  bytes_2 : IsBytes (c ∷ d ∷ [])
  bytes_2 = one_more c (d ∷ []) low bytes_1

  bytes_3 : IsBytes (b ∷ c ∷ d ∷ [])
  bytes_3 = one_more b (c ∷ d ∷ []) high bytes_2

  bytes_4 : IsBytes (a ∷ b ∷ c ∷ d ∷ [])
  bytes_4 = one_more a (b ∷ c ∷ d ∷ []) top bytes_3

  content_by_size : (p q r s : Bool) → ltb n 128 ≡ p → ltb n 32768 ≡ q → ltb n 8388608 ≡ r → ltb n 2147483648 ≡ s
      → HasOne (IsContentOf n)
  content_by_size true q r s e f g k =
      one_content n (d ∷ []) bytes_1 (content_1 a b c d n top high low last value (ltb-true _ _ e))
  content_by_size false true r s e f g k =
      one_content n (c ∷ d ∷ []) bytes_2 (content_2 a b c d n top high low last value (ltb-false _ _ e) (ltb-true _ _ f))
  content_by_size false false true s e f g k =
      one_content n (b ∷ c ∷ d ∷ []) bytes_3 (content_3 a b c d n top high low last value (ltb-false _ _ f) (ltb-true _ _ g))
  content_by_size false false false true e f g k =
      one_content n (a ∷ b ∷ c ∷ d ∷ []) bytes_4 (content_4 a b c d n top high low last value (ltb-false _ _ g) (ltb-true _ _ k))
  content_by_size false false false false e f g k =
      one_content n (0 ∷ a ∷ b ∷ c ∷ d ∷ []) (one_more 0 (a ∷ b ∷ c ∷ d ∷ []) (omega arith) bytes_4) (content_5 a b c d n top high low last value (ltb-false _ _ k) h)

  length_by_size : (p q r s : Bool) → ltb n 128 ≡ p → ltb n 256 ≡ q → ltb n 65536 ≡ r → ltb n 16777216 ≡ s → InBytes n
  length_by_size true q r s e f g k = record { octets = n ∷ []; bytes = one_more n [] (let l = ltb-true n 128 e in omega arith) no_bytes; is = inl (ltb-true _ _ e, refl) }
  length_by_size false true r s e f g k =
      let more = ltb-false n 128 e in let less = ltb-true n 256 f in
      numeral_length n (d ∷ []) more (omega arith) bytes_1 (omega arith) (omega arith)
  length_by_size false false true s e f g k =
      let more = ltb-false n 256 f in let less = ltb-true n 65536 g in
      numeral_length n (c ∷ d ∷ []) (omega arith) (omega arith) bytes_2 (omega arith) (omega arith)
  length_by_size false false false true e f g k =
      let more = ltb-false n 65536 g in let less = ltb-true n 16777216 k in
      numeral_length n (b ∷ c ∷ d ∷ []) (omega arith) (omega arith) bytes_3 (omega arith) (omega arith)
  length_by_size false false false false e f g k =
      let more = ltb-false n 16777216 k in
      numeral_length n (a ∷ b ∷ c ∷ d ∷ []) (omega arith) (omega arith) bytes_4 value (omega arith)

  one_content_of : HasOne (IsContentOf n)
  one_content_of = content_by_size (ltb n 128) (ltb n 32768) (ltb n 8388608) (ltb n 2147483648) refl refl refl refl

  some_length_of : InBytes n
  some_length_of = length_by_size (ltb n 128) (ltb n 256) (ltb n 65536) (ltb n 16777216) refl refl refl refl

pub each_number : EachNumberHasOneContent
each_number n h =
    one_content_of n (n / 16777216) (n / 65536 % 256) (n / 256 % 256) (n % 256) h (omega arith) (omega arith) (omega arith) (omega arith) (omega arith)

spelled : (tag n : ℕ) (content : List ℕ) → tag < 256 → IsBytes content → n ≡ length content → InBytes n
    → (spelling : List ℕ) × IsSpelling tag content spelling
spelled tag n content small bytes e l = (
  tag ∷ l.octets ++ content,
  record {
    bytes = one_more tag (l.octets ++ content) small (both_bytes l.octets content l.bytes bytes);
    spells = record { octets = l.octets; length_is = subst (λ (m : ℕ). IsLength m l.octets) e l.is; whole = refl };
  },
)

some_length : (n : ℕ) → n < 2 ^ 32 → InBytes n
some_length n h =
    some_length_of n (n / 16777216) (n / 65536 % 256) (n / 256 % 256) (n % 256) h (omega arith) (omega arith) (omega arith) (omega arith) (omega arith)

pub each_content : EachContentHasOneSpelling
each_content tag content small bytes h =
    let found = spelled tag (length content) content small bytes refl (some_length (length content) h) in
    record { one = found.0; is = found.1; only = λ other o. one_spelling_of tag content other found.0 o.bytes found.1.bytes o.spells found.1.spells }
