-- Lines that are written word by word, as the program writes them: what they are read as.
use Rattle.std.proofs.Common.{◌≡◌, ◌≢◌, inr, ℕ, ◌<◌, ◌≤◌, nat_le, Bool, true, false, ◌&&◌, List, [], ◌∷◌, ◌++◌, length, map, flat_map, filter, codes, decimal, Ok, None, Some, refl, ap, ◌∙◌, arith, append-nil, ne_eqb, leb-true}
use Rattle.std.specs.List.{All, list_all, slice_split}
use Rattle.std.specs.Str.Parse.{AllDigits}
use Rattle.std.proofs.lemmas.Bool.{and_parts}
use Rattle.std.proofs.lemmas.Fmt.{decimal_is_IsNumeral, decimal_nonempty}
use Rattle.std.proofs.lemmas.List.Elements.{All-append, All-cons, All-from_recursion, All-head, All-nil, All-tail, All-weaker}
use Rattle.std.proofs.lemmas.List.Splits.{slice_split_at, slice_split_none}
use Rattle.std.proofs.lemmas.List.Sums.{AllPass-from_list_all}
use Rattle.std.proofs.lemmas.Str.Parse.{digit_from_value}
use Rattle.av_text.specs.Number.{Is32Bit}
use Rattle.av_text.specs.Words.{is_blank, is_word, words_of}
use Rattle.script_lines.specs.declared.commands.Command.TheVariants.{Assert, Attests}
use Rattle.script_lines.specs.declared.commands.CommandName.TheVariants.{Assert as AssertName, Attests as AttestsName}
use Rattle.script_lines.specs.Grammar.{IsPrintable, IsReading}

-- ---- numbers

-- a byte of `0` to `9`
abbrev IsDigit : ℕ → Type 0
IsDigit byte = (48 ≤ byte) × (byte ≤ 57)

all_digits : (text : List ℕ) → AllDigits 10 text → All IsDigit text
all_digits [] digits = All-nil IsDigit
all_digits (byte ∷ text) digits = All-cons IsDigit byte text (digit_from_value byte digits.0) (all_digits text digits.1)

decimal_digits : (n : ℕ) → Is32Bit n → All IsDigit (decimal n)
decimal_digits n small = all_digits (decimal n) (decimal_is_IsNumeral n (omega (arith, small))).0.1

-- ---- bytes

abbrev LacksBlanks : List ℕ → Type 0
LacksBlanks text = All (λ byte. is_blank byte ≡ false) text

digit_no_blank : (byte : ℕ) → IsDigit byte → is_blank byte ≡ false
digit_no_blank byte is =
    let low = is.0 in
    let space : byte ≢ 32 = λ same. omega arith in
    let tab : byte ≢ 9 = λ same. omega arith in
    rw (ne_eqb byte 32 space, ne_eqb byte 9 tab) refl

number_lacks : (n : ℕ) → Is32Bit n → LacksBlanks (decimal n)
number_lacks n small = All-weaker IsDigit (λ byte. is_blank byte ≡ false) digit_no_blank (decimal n) (decimal_digits n small)

number_printable : (n : ℕ) → Is32Bit n → All IsPrintable (decimal n)
number_printable n small = All-weaker IsDigit IsPrintable (λ byte is. let low = is.0 in let high = is.1 in inr (omega arith, omega arith)) (decimal n) (decimal_digits n small)

-- literal text, by test
abbrev is_shown : ℕ → Bool
is_shown byte = nat_le 32 byte && nat_le byte 126

literal_printable : (text : List ℕ) → list_all is_shown text ≡ true → All IsPrintable text
literal_printable text passes =
    All-weaker (λ byte. is_shown byte ≡ true) IsPrintable
    (λ byte is. let both = and_parts (nat_le 32 byte) (nat_le byte 126) is in inr (leb-true 32 byte both.0, leb-true byte 126 both.1))
    text (AllPass-from_list_all is_shown text passes)

-- ASes, each behind a space
abbrev pub ases_behind : List ℕ → List ℕ
ases_behind ases = flat_map (λ asn. 32 ∷ decimal asn) ases

ases_printable : (ases : List ℕ) → All Is32Bit ases → All IsPrintable (ases_behind ases)
ases_printable [] small = All-nil IsPrintable
ases_printable (asn ∷ ases) small =
    All-cons IsPrintable 32 (decimal asn ++ ases_behind ases) (inr (omega arith, omega arith))
    (All-append IsPrintable (decimal asn) (ases_behind ases) (number_printable asn (All-head Is32Bit asn ases small)) (ases_printable ases (All-tail Is32Bit asn ases small)))

-- ---- words

kept : (word : List ℕ) (others : List (List ℕ)) → 0 < length word → filter is_word (word ∷ others) ≡ word ∷ filter is_word others
kept [] others some = absurd (omega (arith, some))
kept (byte ∷ word) others some = refl

word_first : (word rest : List ℕ) → LacksBlanks word → 0 < length word → words_of (word ++ 32 ∷ rest) ≡ word ∷ words_of rest
word_first word rest lacks some = ap (filter is_word) (slice_split_at is_blank word 32 rest lacks refl) ∙ kept word (slice_split is_blank rest) some

word_last : (word : List ℕ) → LacksBlanks word → 0 < length word → words_of word ≡ word ∷ []
word_last word lacks some = ap (filter is_word) (slice_split_none is_blank word lacks) ∙ kept word [] some

-- a word, and ASes behind it
word_and_ases : (word ases : List ℕ) → LacksBlanks word → 0 < length word → All Is32Bit ases → words_of (word ++ ases_behind ases) ≡ word ∷ map decimal ases
word_and_ases word [] lacks some small = ap words_of (append-nil word) ∙ word_last word lacks some
word_and_ases word (asn ∷ ases) lacks some small =
    let first : Is32Bit asn = All-head Is32Bit asn ases small in
    word_first word (decimal asn ++ ases_behind ases) lacks some
    ∙ ap (λ (ws : List (List ℕ)). word ∷ ws)
    (word_and_ases (decimal asn) ases (number_lacks asn first) (decimal_nonempty asn (omega (arith, first))) (All-tail Is32Bit asn ases small))

-- ---- an assertion

-- the customer, and these providers
abbrev pub asserting : ℕ → List ℕ → List ℕ
asserting customer providers = codes "assert " ++ decimal customer ++ ases_behind providers

pub asserting_printable : (customer : ℕ) (providers : List ℕ) → Is32Bit customer → All Is32Bit providers → All IsPrintable (asserting customer providers)
asserting_printable customer providers small all =
    All-append IsPrintable (codes "assert " ++ decimal customer) (ases_behind providers)
    (All-append IsPrintable (codes "assert ") (decimal customer) (literal_printable (codes "assert ") refl) (number_printable customer small)) (ases_printable providers all)

assert_lacks : LacksBlanks (codes "assert")
assert_lacks = All-from_recursion (λ byte. is_blank byte ≡ false) (codes "assert") (refl, (refl, (refl, (refl, (refl, (refl, tt))))))

asserting_words : (customer : ℕ) (providers : List ℕ) → Is32Bit customer → All Is32Bit providers → words_of (asserting customer providers) ≡ codes "assert" ∷ decimal customer ∷ map decimal providers
asserting_words customer providers small all =
    word_first (codes "assert") (decimal customer ++ ases_behind providers) assert_lacks (omega arith)
    ∙ ap (λ (ws : List (List ℕ)). codes "assert" ∷ ws)
    (word_and_ases (decimal customer) providers (number_lacks customer small) (decimal_nonempty customer (omega (arith, small))) all)

same_byte : (one other : ℕ) → Some one ≡ Some other → one ≡ other
same_byte one other same = cc

-- it is read as one
pub asserting_reads : (customer : ℕ) (providers : List ℕ) → Is32Bit customer → All Is32Bit providers → 0 < length providers → length (asserting customer providers) ≤ 4096
    → IsReading (asserting customer providers) (Ok (Assert customer providers))
asserting_reads customer providers small all some short = inr (
  record {
    read = record { no_comment = λ same. omega (arith, same_byte 97 35 same); short = short };
    name = AssertName;
    words = decimal customer ∷ map decimal providers;
    words_are = asserting_words customer providers small all;
  },
  asserting_printable customer providers small all,
  (customer, ((small, refl), omega arith, omega (arith, small)), (providers, omega (arith, some), (all, refl), refl)),
)

-- ---- the line `attests`

pub attests_reads : IsReading (codes "attests") (Ok (Attests None))
attests_reads = inr (
  record {
    read = record { no_comment = λ same. omega (arith, same_byte 97 35 same); short = omega arith };
    name = AttestsName;
    words = [];
    words_are = refl;
  },
  literal_printable (codes "attests") refl,
  refl,
)
