-- Marks in texts, powers, and texts of addresses: what the others cite.
use Rattle.std.proofs.Common.{◌≡◌, ◌≢◌, ℕ, zero, suc, ◌+◌, ◌*◌, ◌/◌, ◌%◌, ◌^◌, ◌<◌, ◌≤◌, ◌==◌, nat_lt, Bool, true, false, if◌then◌else◌, List, [], ◌∷◌, ◌++◌, decimal, Option, Some, None, IfNone, refl, sym, ap, subst, arith}
use Rattle.std.specs.Fmt.{digits, digits_onto, digit_glyph}
use Rattle.std.specs.List.{All}
use Rattle.std.proofs.Math.Nat.{pow-le-pow_right, pow-zero}
use Rattle.std.proofs.lemmas.List.Elements.{All-append, All-cons, All-head, All-nil, All-tail}
use Rattle.std.proofs.lemmas.Nat.{mod_below}
use Rattle.path_model.specs.declared.addr.Addr.{Addr}
use Rattle.path_model.specs.declared.addr.Addr.TheVariants.{V4, V6}
use Rattle.path_model.specs.declared.peer.Peer.{Peer}
use Rattle.path_model.specs.Prefix.{IsAddr, bits_of}
use Rattle.av_text.specs.AddressText.{IsAddrText, addr_text, parts_text}
use Rattle.av_text.specs.Marks.{Lacks}
use Rattle.av_text.proofs.AnySpellingLemmas.{peer_text_injective}
use Rattle.av_text.proofs.LackLemmas.{decimal-lacks}

-- ---- marks

pub has_mark : (mark : ℕ) (front rest : List ℕ) → Lacks mark (front ++ mark ∷ rest) → ⊥
has_mark mark [] rest lacks = All-head (λ byte. byte ≢ mark) mark rest lacks refl
has_mark mark (b ∷ bs) rest lacks = has_mark mark bs rest (All-tail (λ byte. byte ≢ mark) b (bs ++ mark ∷ rest) lacks)

-- a text has one first mark
pub one_cut : (mark : ℕ) (a c b d : List ℕ) → Lacks mark a → Lacks mark c → a ++ mark ∷ b ≡ c ++ mark ∷ d → (a ≡ c) × (b ≡ d)
one_cut mark [] [] b d in_a in_c same = let rest : b ≡ d = cc in (refl, rest)
one_cut mark [] (y ∷ ys) b d in_a in_c same = let is : y ≡ mark = cc in absurd (All-head (λ byte. byte ≢ mark) y ys in_c is)
one_cut mark (x ∷ xs) [] b d in_a in_c same = let is : x ≡ mark = cc in absurd (All-head (λ byte. byte ≢ mark) x xs in_a is)
one_cut mark (x ∷ xs) (y ∷ ys) b d in_a in_c same =
    let first : x ≡ y = cc in
    let more : xs ++ mark ∷ b ≡ ys ++ mark ∷ d = cc in
    let rest = one_cut mark xs ys b d (All-tail (λ byte. byte ≢ mark) x xs in_a) (All-tail (λ byte. byte ≢ mark) y ys in_c) more in
    ((λ i. first i ∷ rest.0 i), rest.1)

-- ---- powers

pub pow_some : (base k : ℕ) → 0 < base → 0 < base ^ k
pow_some base k some = let least : base ^ 0 ≤ base ^ k = pow-le-pow_right some (omega arith) in omega (arith, pow-zero base)

pub pow_fits : (base k most : ℕ) → 0 < base → k ≤ most → base ^ k ≤ base ^ most
pow_fits base k most some few = pow-le-pow_right some few

pub parts_fit : (base k most high low : ℕ) → 0 < base → k ≤ most → high * base ^ k + low < base ^ (k + 1) → high * base ^ k + low < base ^ (most + 1)
parts_fit base k most high low some few less = let more : base ^ (k + 1) ≤ base ^ (most + 1) = pow-le-pow_right some (omega arith) in omega arith

-- ---- addresses

pub bits_most : (a : Addr) → bits_of a ≤ 128
bits_most (V4 n) = omega arith
bits_most (V6 n) = omega arith

-- two addresses with one text are one, since the peers of AS 0 at them have one text
abbrev at_0 : Addr → Peer
at_0 a = record { addr = a; asn = 0 }

pub addr_text_injective : (a b : Addr) → IsAddr a → IsAddr b → addr_text a ≡ addr_text b → a ≡ b
addr_text_injective a b is_a is_b same =
    ap (λ (p : Peer). p.addr) (peer_text_injective (at_0 a) (at_0 b) (is_a, omega arith) (is_b, omega arith) (ap (λ (t : List ℕ). t ++ 32 ∷ decimal 0) same))

-- ---- no colon in a number

abbrev NoColon : ℕ → Type 0
NoColon byte = byte ≢ 58

glyph_colon : (small : Bool) (d : ℕ) → d < 10 → (if small then 48 + d else 87 + d) ≢ 58
glyph_colon true d low e = omega (arith, low, e)
glyph_colon false d low e = omega (arith, low, e)

either_colon : (b : Bool) (xs ys : List ℕ) → All NoColon xs → All NoColon ys → All NoColon (if b then xs else ys)
either_colon true xs ys x y = x
either_colon false xs ys x y = y

digits_colon : (k n : ℕ) (text : List ℕ) → All NoColon text → All NoColon (digits_onto k 10 false n text)
digits_colon zero n text from = from
digits_colon (suc k) n text from =
    let glyph = glyph_colon (nat_lt (n % 10) 10) (n % 10) (mod_below n 10 (omega arith)) in
    let more : All NoColon (digit_glyph false (n % 10) ∷ text) = All-cons NoColon (digit_glyph false (n % 10)) text glyph from in
    either_colon (n / 10 == 0) (digit_glyph false (n % 10) ∷ text) (digits_onto k 10 false (n / 10) (digit_glyph false (n % 10) ∷ text)) more
    (digits_colon k (n / 10) (digit_glyph false (n % 10) ∷ text) more)

decimal_colon : (n : ℕ) → Lacks 58 (decimal n)
unfolding digits
decimal_colon n = digits_colon 64 n [] (All-nil NoColon)

-- ---- no colon and no slash in an IPv4 address

module _ (code : ℕ) (spell : ℕ → List ℕ) (mark base : ℕ) (other : mark ≢ code) (each : (n : ℕ) → Lacks code (spell n)) where
  parts_lack : (k n : ℕ) → Lacks code (parts_text spell mark base k n)
  parts_lack zero n = each n
  parts_lack (suc k) n = All-append (λ byte. byte ≢ code) (spell (n / base ^ suc k)) (mark ∷ parts_text spell mark base k (n % base ^ suc k)) (each (n / base ^ suc k))
      (All-cons (λ byte. byte ≢ code) mark (parts_text spell mark base k (n % base ^ suc k)) other (parts_lack k (n % base ^ suc k)))

pub quad_colon : (text : List ℕ) (n : ℕ) → IsAddrText text (V4 n) → Lacks 58 text
quad_colon text n is = subst (λ (t : List ℕ). Lacks 58 t) (sym is.1) (parts_lack 58 decimal 46 256 (λ e. cc) decimal_colon 3 n)

pub quad_slash : (text : List ℕ) (n : ℕ) → IsAddrText text (V4 n) → Lacks 47 text
quad_slash text n is = subst (λ (t : List ℕ). Lacks 47 t) (sym is.1) (parts_lack 47 decimal 46 256 (λ e. cc) (λ m. decimal-lacks 47 m (omega arith)) 3 n)

-- ---- answers

-- what follows where there is no answer
pub none_gives : {A : Type 0} (o : Option A) (P Q : Type 0) → (P → Q) → IfNone o P → IfNone o Q
none_gives None P Q gives h = gives h
none_gives (Some a) P Q gives h = h
