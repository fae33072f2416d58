-- Numbers that are written digit by digit, and parts that are written one behind another.
use Rattle.std.proofs.Common.{◌≡◌, ℕ, ◌+◌, ◌/◌, ◌%◌, ◌^◌, ◌<◌, ◌≤◌, List, [], ◌∷◌, ◌++◌, length, take, drop, set, decimal, refl, sym, ap, subst, ◌∙◌, append_assoc, arith, length-append}
use Rattle.std.proofs.lemmas.List.{length-take-le, take_more_set, take-append-drop, take-append-le}
use Rattle.std.proofs.Math.Seq.{take-append-add}
use Rattle.std.proofs.lemmas.Fmt.{decimal_digit, decimal_step, length-decimal-le}
use Rattle.av_text.specs.AddressText.{parts_text}
use Rattle.report_text.specs.Writes.{Writes}

pub decimal_two : (n : ℕ) → 10 ≤ n → n < 100 → decimal n ≡ (48 + n / 10) ∷ (48 + n % 10) ∷ []
decimal_two n least small = rw (decimal_step n least (omega arith), decimal_digit (n / 10) (omega arith)) refl

pub decimal_three : (n : ℕ) → 100 ≤ n → n < 1000 → decimal n ≡ (48 + n / 100) ∷ (48 + n / 10 % 10) ∷ (48 + n % 10) ∷ []
decimal_three n least small =
    let hundreds : n / 10 / 10 ≡ n / 100 = omega arith in
    rw (decimal_step n (omega arith) (omega arith), decimal_two (n / 10) (omega arith) (omega arith), hundreds) refl

pub length_one : (n : ℕ) → n < 10 → length (decimal n) ≡ 1
length_one n small = ap length (decimal_digit n small)

pub length_more : (n : ℕ) → 10 ≤ n → n < 2 ^ 64 → length (decimal n) ≡ length (decimal (n / 10)) + 1
length_more n least small = ap length (decimal_step n least small) ∙ length-append _ _

pub length_most : (n : ℕ) → n < 2 ^ 32 → length (decimal n) ≤ 10
length_most n small = length-decimal-le 10 n (omega arith) (omega arith) (omega arith)

-- one text behind another
pub behind : {t u a b c : List ℕ} {i j k : ℕ} → Writes t a i b j → Writes u b j c k → Writes (t ++ u) a i c k
behind {t} {u} {a} {b} {c} {i} {j} {k} first next = record { front = next.front ∙ ap (λ (l : List ℕ). l ++ u) first.front ∙ append_assoc (take i a) t u }

-- the same text, spelled otherwise
pub respelled : {t u a b : List ℕ} {i j : ℕ} → Writes t a i b j → t ≡ u → Writes u a i b j
respelled {t} {u} {a} {b} {i} {j} is same = subst (λ (x : List ℕ). Writes x a i b j) same is

-- the first bytes alone of what was written
pub shorter : {t a b : List ℕ} {i j : ℕ} (len : ℕ) → Writes t a i b j → i ≤ length a → len ≤ length t → Writes (take len t) a i b (i + len)
shorter {t} {a} {b} {i} {j} len written inside short =
    let front : length (take i a) ≡ i = length-take-le i a inside in
    let whole : length (take j b) ≡ i + length t = ap length written.front ∙ length-append (take i a) t ∙ ap (λ (n : ℕ). n + length t) front in
    record {
      front = ap (take (i + len)) (sym (take-append-drop j b))
          ∙ take-append-le (i + len) (take j b) (drop j b) (omega (arith, whole, short))
          ∙ ap (take (i + len)) written.front
          ∙ ap (λ (n : ℕ). take (n + len) (take i a ++ t)) (sym front)
          ∙ take-append-add (take i a) t len;
    }

-- one byte more
pub one_more : (line : List ℕ) (at byte : ℕ) → at < length line → Writes (byte ∷ []) line at (set line at byte) (at + 1)
one_more line at byte inside = record { front = take_more_set line at byte inside }

-- four digits to the base 256
pub four_octets : (spell : ℕ → List ℕ) (mark n : ℕ) → parts_text spell mark 256 3 n
    ≡ spell (n / 16777216) ++ mark ∷ (spell (n / 65536 % 256) ++ mark ∷ (spell (n / 256 % 256) ++ mark ∷ spell (n % 256)))
four_octets spell mark n =
    let second : n % 16777216 / 65536 ≡ n / 65536 % 256 = omega arith in
    let third : n % 16777216 % 65536 / 256 ≡ n / 256 % 256 = omega arith in
    let last : n % 16777216 % 65536 % 256 ≡ n % 256 = omega arith in
    rw (second, third, last) refl

-- four digits to the base 65,536
pub four_groups : (spell : ℕ → List ℕ) (mark n : ℕ) → parts_text spell mark 65536 3 n
    ≡ spell (n / 281474976710656) ++ mark ∷ (spell (n / 4294967296 % 65536) ++ mark ∷ (spell (n / 65536 % 65536) ++ mark ∷ spell (n % 65536)))
four_groups spell mark n =
    let second : n % 281474976710656 / 4294967296 ≡ n / 4294967296 % 65536 = omega arith in
    let third : n % 281474976710656 % 4294967296 / 65536 ≡ n / 65536 % 65536 = omega arith in
    let last : n % 281474976710656 % 4294967296 % 65536 ≡ n % 65536 = omega arith in
    rw (second, third, last) refl

four_before : (a b c d rest : List ℕ) (mark : ℕ) → (a ++ mark ∷ (b ++ mark ∷ (c ++ mark ∷ d))) ++ rest ≡ a ++ mark ∷ (b ++ mark ∷ (c ++ mark ∷ (d ++ rest)))
four_before a b c d rest mark =
    append_assoc a (mark ∷ (b ++ mark ∷ (c ++ mark ∷ d))) rest
    ∙ ap (λ (t : List ℕ). a ++ mark ∷ t) (append_assoc b (mark ∷ (c ++ mark ∷ d)) rest ∙ ap (λ (t : List ℕ). b ++ mark ∷ t) (append_assoc c (mark ∷ d) rest))

-- eight digits to the base 65,536 are four and four
pub eight_groups : (spell : ℕ → List ℕ) (mark n : ℕ) → parts_text spell mark 65536 7 n
    ≡ parts_text spell mark 65536 3 (n / 2 ^ 64) ++ mark ∷ parts_text spell mark 65536 3 (n % 2 ^ 64)
eight_groups spell mark n =
    let first : n / 5192296858534827628530496329220096 ≡ n / 18446744073709551616 / 281474976710656 = omega arith in
    let second : n % 5192296858534827628530496329220096 / 79228162514264337593543950336 ≡ n / 18446744073709551616 % 281474976710656 / 4294967296 = omega arith in
    let third : n % 5192296858534827628530496329220096 % 79228162514264337593543950336 / 1208925819614629174706176
    ≡ n / 18446744073709551616 % 281474976710656 % 4294967296 / 65536 = omega arith in
    let fourth : n % 5192296858534827628530496329220096 % 79228162514264337593543950336 % 1208925819614629174706176 / 18446744073709551616
    ≡ n / 18446744073709551616 % 281474976710656 % 4294967296 % 65536 = omega arith in
    let rest : n % 5192296858534827628530496329220096 % 79228162514264337593543950336 % 1208925819614629174706176 % 18446744073709551616 ≡ n % 18446744073709551616 = omega arith in
    rw (first, second, third, fourth, rest) (sym (four_before _ _ _ _ _ mark))
