-- Addresses: one spelling each, and whether a text is one.
use Rattle.std.proofs.Common.{◌≡◌, ◌≢◌, ℕ, zero, suc, ◌<◌, ◌≤◌, ◌+◌, ◌*◌, ◌/◌, ◌%◌, ◌^◌, List, [], ◌∷◌, ◌++◌, decimal, sym, ap, subst, ◌∙◌, arith}
use Rattle.std.specs.Char.{digit_char, digit_value}
use Rattle.std.proofs.Math.Nat.{mod-lt, pow-suc, pow-zero}
use Rattle.std.proofs.lemmas.Nat.{div-add-mod'}
use Rattle.std.proofs.lemmas.Fmt.{decimal_injective}
use Rattle.std.proofs.lemmas.Str.{digit_value-digit_char}
use Rattle.std.proofs.lemmas.List.Elements.{All-cons, All-nil, All-append}
use Rattle.av_text.proofs.LackLemmas.{decimal-lacks}
use Rattle.av_text.specs.Marks.{Lacks}
use Rattle.path_model.specs.declared.addr.Addr.{Addr}
use Rattle.path_model.specs.declared.addr.Addr.TheVariants.{V4, V6}
use Rattle.path_model.specs.Prefix.{bits_of, IsAddr}
use Rattle.av_text.specs.AddressText.{parts_text, hex4, octets_text, groups_text, addr_text}
use Rattle.av_text.proofs.PartLemmas.{KeepsApart, has_mark, one_cut, first_digit, pow_some, octets_apart, groups_apart}

-- one digit alone is below the base
pub one_digit : (base n : ℕ) → n < base ^ (zero + 1) → n < base
one_digit base n small = let e : base ^ 0 * base ≡ 1 * base = ap (λ (p : ℕ). p * base) (pow-zero base) in let one : base ^ 1 ≡ base = omega (arith, e, pow-suc base 0) in omega arith

-- a byte that neither the mark nor a digit has
parts_lacks : (spell : ℕ → List ℕ) (mark base code : ℕ) → 0 < base → mark ≢ code → ((d : ℕ) → Lacks code (spell d)) → (marks n : ℕ) → Lacks code (parts_text spell mark base marks n)
parts_lacks spell mark base code some other lacks zero n = lacks n
parts_lacks spell mark base code some other lacks (suc k) n =
    let P : ℕ → Type 0 = λ byte. byte ≢ code in
    All-append P (spell (n / base ^ suc k)) _ (lacks (n / base ^ suc k)) (All-cons P mark _ other (parts_lacks spell mark base code some other lacks k (n % base ^ suc k)))

-- numbers with one text are one
parts_injective : (spell : ℕ → List ℕ) (mark base : ℕ) → 0 < base → KeepsApart spell mark base → ((d e : ℕ) → d < base → e < base → spell d ≡ spell e → d ≡ e) →
    (marks m n : ℕ) → m < base ^ (marks + 1) → n < base ^ (marks + 1) → parts_text spell mark base marks m ≡ parts_text spell mark base marks n → m ≡ n
parts_injective spell mark base some apart one zero m n small_m small_n same = one m n (one_digit base m small_m) (one_digit base n small_n) same
parts_injective spell mark base some apart one (suc k) m n small_m small_n same =
    let p : ℕ = base ^ suc k in
    let a = first_digit base k m some small_m in
    let b = first_digit base k n some small_n in
    let cut = one_cut mark (spell (m / p)) (spell (n / p)) _ _ (apart (m / p) a) (apart (n / p) b) same in
    let high : m / p ≡ n / p = one (m / p) (n / p) a b cut.0 in
    let less_m : m % p < base ^ (k + 1) = let P : ℕ → Type 0 = λ j. m % p < base ^ j in subst P (omega arith) (mod-lt m (pow_some base (suc k) some)) in
    let less_n : n % p < base ^ (k + 1) = let P : ℕ → Type 0 = λ j. n % p < base ^ j in subst P (omega arith) (mod-lt n (pow_some base (suc k) some)) in
    let low : m % p ≡ n % p = parts_injective spell mark base some apart one k (m % p) (n % p) less_m less_n cut.1 in
    sym (div-add-mod' m p) ∙ ap (λ (h : ℕ). h * p + m % p) high ∙ ap (λ (l : ℕ). n / p * p + l) low ∙ div-add-mod' n p

-- hexadecimal digits
digit_from : (d : ℕ) → 48 ≤ digit_char d
digit_from d = grind arith

digit_injective : (d e : ℕ) → d < 16 → e < 16 → digit_char d ≡ digit_char e → d ≡ e
digit_injective d e small_d small_e same = sym (digit_value-digit_char d (omega arith)) ∙ ap digit_value same ∙ digit_value-digit_char e (omega arith)

pub hex4_injective : (g h : ℕ) → g < 65536 → h < 65536 → hex4 g ≡ hex4 h → g ≡ h
hex4_injective g h small_g small_h same =
    let a : digit_char (g / 4096) ≡ digit_char (h / 4096) = cc in
    let b : digit_char (g / 256 % 16) ≡ digit_char (h / 256 % 16) = cc in
    let c : digit_char (g / 16 % 16) ≡ digit_char (h / 16 % 16) = cc in
    let d : digit_char (g % 16) ≡ digit_char (h % 16) = cc in
    let a' = digit_injective (g / 4096) (h / 4096) (omega arith) (omega arith) a in
    let b' = digit_injective (g / 256 % 16) (h / 256 % 16) (omega arith) (omega arith) b in
    let c' = digit_injective (g / 16 % 16) (h / 16 % 16) (omega arith) (omega arith) c in
    let d' = digit_injective (g % 16) (h % 16) (omega arith) (omega arith) d in
    omega arith

hex4_lacks : (code : ℕ) → code < 48 → (g : ℕ) → Lacks code (hex4 g)
hex4_lacks code low g =
    let P : ℕ → Type 0 = λ byte. byte ≢ code in
    let no : (d : ℕ) → digit_char d ≢ code = λ d same. let from = digit_from d in omega arith in
    let d : List ℕ = digit_char (g % 16) ∷ [] in
    let c : List ℕ = digit_char (g / 16 % 16) ∷ d in
    let b : List ℕ = digit_char (g / 256 % 16) ∷ c in
    All-cons P (digit_char (g / 4096)) b (no (g / 4096)) (All-cons P (digit_char (g / 256 % 16)) c (no (g / 256 % 16)) (All-cons P (digit_char (g / 16 % 16)) d (no (g / 16 % 16)) (All-cons P (digit_char (g % 16)) [] (no (g % 16)) (All-nil P))))

-- an address of one family isn't one of the other
no_dot : (n m : ℕ) → octets_text 3 n ≡ groups_text 7 m → ⊥
no_dot n m same =
    let lacks : Lacks 46 (groups_text 7 m) = parts_lacks hex4 58 65536 46 (omega arith) (λ e. cc) (hex4_lacks 46 (omega arith)) 7 m in
    has_mark 46 (decimal (n / 16777216)) _ (let P : List ℕ → Type 0 = λ t. Lacks 46 t in subst P (sym same) lacks)

octet_injective : (d e : ℕ) → d < 256 → e < 256 → decimal d ≡ decimal e → d ≡ e
octet_injective d e small_d small_e same = decimal_injective d e (omega arith) (omega arith) same

-- two addresses with one text are one
pub addr_text_injective : (a b : Addr) → IsAddr a → IsAddr b → addr_text a ≡ addr_text b → a ≡ b
addr_text_injective (V4 m) (V4 n) is_m is_n same = ap V4 (parts_injective decimal 46 256 (omega arith) octets_apart octet_injective 3 m n is_m is_n same)
addr_text_injective (V4 m) (V6 n) is_m is_n same = absurd (no_dot m n same)
addr_text_injective (V6 m) (V4 n) is_m is_n same = absurd (no_dot n m (sym same))
addr_text_injective (V6 m) (V6 n) is_m is_n same = ap V6 (parts_injective hex4 58 65536 (omega arith) groups_apart hex4_injective 7 m n is_m is_n same)

pub bits_most : (a : Addr) → bits_of a ≤ 128
bits_most (V4 n) = omega arith
bits_most (V6 n) = omega arith

-- no byte below the digits but a dot
octets_lack : (code : ℕ) → code < 48 → 46 ≢ code → (n : ℕ) → Lacks code (octets_text 3 n)
octets_lack code low other n = parts_lacks decimal 46 256 code (omega arith) other (λ d. decimal-lacks code d low) 3 n

groups_lack : (code : ℕ) → code < 48 → (n : ℕ) → Lacks code (groups_text 7 n)
groups_lack code low n = parts_lacks hex4 58 65536 code (omega arith) (λ same. omega arith) (hex4_lacks code low) 7 n

pub addr_lacks : (code : ℕ) → code < 48 → 46 ≢ code → (a : Addr) → Lacks code (addr_text a)
addr_lacks code low other a = elim a as (λ x. Lacks code (addr_text x)) [ V4 n ↦ octets_lack code low other n | V6 n ↦ groups_lack code low n ]

-- an address, a mark and a number lack what their parts lack
pub marked_lacks : (code mark : ℕ) → code < 48 → 46 ≢ code → mark ≢ code → (a : Addr) (n : ℕ) → Lacks code (addr_text a ++ mark ∷ decimal n)
marked_lacks code mark low no_dot other a n =
    let P : ℕ → Type 0 = λ byte. byte ≢ code in
    All-append P (addr_text a) (mark ∷ decimal n) (addr_lacks code low no_dot a) (All-cons P mark (decimal n) other (decimal-lacks code n low))

-- and tell the parts
pub marked_injective : (mark : ℕ) → mark < 48 → 46 ≢ mark → (a b : Addr) (m n : ℕ) → IsAddr a → IsAddr b → m < 2 ^ 64 → n < 2 ^ 64 →
    addr_text a ++ mark ∷ decimal m ≡ addr_text b ++ mark ∷ decimal n → (a ≡ b) × (m ≡ n)
marked_injective mark low no_dot a b m n is_a is_b small_m small_n same =
    let cut = one_cut mark (addr_text a) (addr_text b) (decimal m) (decimal n) (addr_lacks mark low no_dot a) (addr_lacks mark low no_dot b) same in
    (addr_text_injective a b is_a is_b cut.0, decimal_injective m n small_m small_n cut.1)
