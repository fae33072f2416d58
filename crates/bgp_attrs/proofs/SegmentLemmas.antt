-- The first segment is read exactly where the bytes begin with one, and the first AS where they spell one.
use Rattle.std.proofs.Common.{◌≡◌, ℕ, zero, suc, ◌*◌, ◌<◌, ◌≤◌, Bool, true, false, ◌&&◌, List, [], ◌∷◌, ◌++◌, length, take, drop, Some, None, refl, sym, ap, subst, ◌∙◌, arith}
use Rattle.std.specs.Prelude.{nat_le, nat_lt}
use Rattle.std.specs.Int.{w16, w32, from_be_bytes}
use Rattle.std.proofs.lemmas.Option.{cond_some, some_pair_parts}
use Rattle.std.proofs.lemmas.List.{take-append-drop, take_at, drop_at, length-take, length-append}
use Rattle.std.proofs.lemmas.Bool.Decides.{nat_tests}
use Rattle.held_bytes.specs.Units.{Begins}
use Rattle.bgp_attrs.specs.Joined.{IsReader}
use Rattle.bgp_attrs.specs.Segments.{numbers_2, numbers_4, ases_of, is_kind, IsSegment, segment_at}
use Rattle.bgp_attrs.specs.Fixed.{as_width, asn_at, two_at, four_at}

two_first : (bytes : List ℕ) (asn : ℕ) (rest : List ℕ) → two_at bytes ≡ Some (asn, rest) → numbers_2 bytes ≡ asn ∷ numbers_2 rest
unfolding two_at
two_first [] asn rest e = absurd cc
two_first (a ∷ []) asn rest e = absurd cc
two_first (a ∷ b ∷ bytes) asn rest e = let p = some_pair_parts (from_be_bytes w16 (a ∷ b ∷ [])) asn bytes rest e in λ i. p.0 i ∷ numbers_2 (p.1 i)

four_first : (bytes : List ℕ) (asn : ℕ) (rest : List ℕ) → four_at bytes ≡ Some (asn, rest) → numbers_4 bytes ≡ asn ∷ numbers_4 rest
unfolding four_at
four_first [] asn rest e = absurd cc
four_first (a ∷ []) asn rest e = absurd cc
four_first (a ∷ b ∷ []) asn rest e = absurd cc
four_first (a ∷ b ∷ c ∷ []) asn rest e = absurd cc
four_first (a ∷ b ∷ c ∷ d ∷ bytes) asn rest e = let p = some_pair_parts (from_be_bytes w32 (a ∷ b ∷ c ∷ d ∷ [])) asn bytes rest e in λ i. p.0 i ∷ numbers_4 (p.1 i)

two_none : (bytes : List ℕ) → two_at bytes ≡ None → numbers_2 bytes ≡ []
unfolding two_at
two_none [] e = refl
two_none (a ∷ []) e = refl
two_none (a ∷ b ∷ bytes) e = absurd cc

four_none : (bytes : List ℕ) → four_at bytes ≡ None → numbers_4 bytes ≡ []
unfolding four_at
four_none [] e = refl
four_none (a ∷ []) e = refl
four_none (a ∷ b ∷ []) e = refl
four_none (a ∷ b ∷ c ∷ []) e = refl
four_none (a ∷ b ∷ c ∷ d ∷ bytes) e = absurd cc

pub ases_first : (wide : Bool) (bytes : List ℕ) (asn : ℕ) (rest : List ℕ) → asn_at wide bytes ≡ Some (asn, rest) → ases_of wide bytes ≡ asn ∷ ases_of wide rest
ases_first true bytes asn rest e = four_first bytes asn rest e
ases_first false bytes asn rest e = two_first bytes asn rest e

pub ases_none : (wide : Bool) (bytes : List ℕ) → asn_at wide bytes ≡ None → ases_of wide bytes ≡ []
ases_none true bytes e = four_none bytes e
ases_none false bytes e = two_none bytes e

length-numbers_2 : (n : ℕ) (bytes : List ℕ) → length bytes ≡ 2 * n → length (numbers_2 bytes) ≡ n
length-numbers_2 zero [] e = refl
length-numbers_2 (suc n) [] e = absurd (omega (arith, e))
length-numbers_2 n (a ∷ []) e = absurd (omega (arith, e))
length-numbers_2 zero (a ∷ b ∷ bytes) e = absurd (omega (arith, e))
length-numbers_2 (suc n) (a ∷ b ∷ bytes) e = ap suc (length-numbers_2 n bytes (omega (arith, e)))

length-numbers_4 : (n : ℕ) (bytes : List ℕ) → length bytes ≡ 4 * n → length (numbers_4 bytes) ≡ n
length-numbers_4 zero [] e = refl
length-numbers_4 (suc n) [] e = absurd (omega (arith, e))
length-numbers_4 n (a ∷ []) e = absurd (omega (arith, e))
length-numbers_4 n (a ∷ b ∷ []) e = absurd (omega (arith, e))
length-numbers_4 n (a ∷ b ∷ c ∷ []) e = absurd (omega (arith, e))
length-numbers_4 zero (a ∷ b ∷ c ∷ d ∷ bytes) e = absurd (omega (arith, e))
length-numbers_4 (suc n) (a ∷ b ∷ c ∷ d ∷ bytes) e = ap suc (length-numbers_4 n bytes (omega (arith, e)))

pub length-ases_of : (wide : Bool) (n : ℕ) (bytes : List ℕ) → length bytes ≡ as_width wide * n → length (ases_of wide bytes) ≡ n
length-ases_of true n bytes e = length-numbers_4 n bytes e
length-ases_of false n bytes e = length-numbers_2 n bytes e

-- three tests that hold
tests_hold : (a b c : Bool) → (a && (b && c)) ≡ true → (a ≡ true) × (b ≡ true) × (c ≡ true)
tests_hold true true true e = (refl, refl, refl)
tests_hold true true false e = absurd cc
tests_hold true false c e = absurd cc
tests_hold false b c e = absurd cc

abbrev found : Bool → ℕ → ℕ → List ℕ → (ℕ × List ℕ) × List ℕ
found wide kind count rest = ((kind, ases_of wide (take (as_width wide * count) rest)), drop (as_width wide * count) rest)

finds : (wide : Bool) (bytes : List ℕ) (segment : ℕ × List ℕ) (rest : List ℕ) → segment_at wide bytes ≡ Some (segment, rest) → Begins (IsSegment wide) bytes segment rest
unfolding segment_at
finds wide [] segment rest e = absurd cc
finds wide (kind ∷ []) segment rest e = absurd cc
finds wide (kind ∷ count ∷ bytes) segment rest e =
    let size = as_width wide * count in
    let s = cond_some (is_kind kind && (nat_lt 0 count && nat_le size (length bytes))) (found wide kind count bytes) (segment, rest) e in
    let t = tests_hold (is_kind kind) (nat_lt 0 count) (nat_le size (length bytes)) s.0 in
    let some : 0 < count = grind (arith, nat_tests) in
    let long : size ≤ length bytes = grind (arith, nat_tests) in
    let len : length (take size bytes) ≡ size = omega (arith, length-take size bytes) in
    let n : length (ases_of wide (take size bytes)) ≡ count = length-ases_of wide count (take size bytes) len in
    subst (λ (x : (ℕ × List ℕ) × List ℕ). Begins (IsSegment wide) (kind ∷ count ∷ bytes) x.0 x.1) s.1 (record {
      front = kind ∷ count ∷ take size bytes;
      spelled = record { body = take size bytes; known = t.0; some = omega arith; whole = ap (λ (k : ℕ). kind ∷ k ∷ take size bytes) (sym n); size = len ∙ ap (λ (k : ℕ). as_width wide * k) (sym n); ases = refl };
      whole = ap (λ (xs : List ℕ). kind ∷ count ∷ xs) (sym (take-append-drop size bytes));
    })

only_here : (wide : Bool) (kind : ℕ) (ases body rest : List ℕ) → is_kind kind ≡ true → 0 < length ases → length body ≡ as_width wide * length ases → ases ≡ ases_of wide body
    → segment_at wide (kind ∷ length ases ∷ (body ++ rest)) ≡ Some ((kind, ases), rest)
unfolding segment_at
only_here wide kind ases body rest known some size ases-is =
    let n = as_width wide * length ases in
    let some_test : nat_lt 0 (length ases) ≡ true = grind (arith, nat_tests) in
    let fits : n ≤ length (body ++ rest) = omega (arith, length-append body rest) in
    let fits_test : nat_le n (length (body ++ rest)) ≡ true = grind (arith, nat_tests) in
    rw (known, some_test, fits_test, take_at body rest n size, drop_at body rest n size, ← ases-is) refl

only : (wide : Bool) (bytes : List ℕ) (segment : ℕ × List ℕ) (rest : List ℕ) → Begins (IsSegment wide) bytes segment rest → segment_at wide bytes ≡ Some (segment, rest)
only wide bytes segment rest b =
    let s = b.spelled in
    let bytes-is : bytes ≡ segment.0 ∷ length segment.1 ∷ (s.body ++ rest) = b.whole ∙ ap (λ (xs : List ℕ). xs ++ rest) s.whole in
    ap (segment_at wide) bytes-is ∙ only_here wide segment.0 segment.1 s.body rest s.known s.some s.size s.ases

pub segment_reader : (wide : Bool) → IsReader (IsSegment wide) (segment_at wide)
segment_reader wide = record { finds = finds wide; only = only wide; some = λ front segment s. omega (arith, ap length s.whole) }
