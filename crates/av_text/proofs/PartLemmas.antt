-- Numbers that are written as digits with marks between them.
use Rattle.std.proofs.Common.{◌≡◌, ◌≢◌, ℕ, zero, suc, ◌<◌, ◌≤◌, ◌+◌, ◌-◌, ◌*◌, ◌/◌, ◌%◌, ◌^◌, List, [], ◌∷◌, ◌++◌, decimal, refl, sym, ap, subst, ◌∙◌, arith, add-one}
use Rattle.std.specs.Char.{digit_char}
use Rattle.std.proofs.Math.Nat.{div-lt_iff_lt-mul, mod-lt, pow-suc, pow-zero, pow-le-pow_right, mul-le-mul_right}
use Rattle.std.proofs.lemmas.Nat.{div-mul-add, mod-mul-add}
use Rattle.std.proofs.lemmas.List.Elements.{All-head, All-tail, All-cons, All-nil}
use Rattle.av_text.proofs.LackLemmas.{decimal-lacks}
use Rattle.av_text.specs.Marks.{Lacks}
use Rattle.av_text.specs.AddressText.{parts_text, hex4}

-- no digit's spelling has the mark
abbrev pub KeepsApart : (ℕ → List ℕ) → ℕ → ℕ → Type 0
KeepsApart spell mark base = (d : ℕ) → d < base → Lacks mark (spell d)

pub has_mark : (mark : ℕ) (front rest : List ℕ) → Lacks mark (front ++ mark ∷ rest) → ⊥
has_mark mark [] rest lacks = All-head (λ byte. byte ≢ mark) mark rest lacks refl
has_mark mark (b ∷ bs) rest lacks = has_mark mark bs rest (All-tail (λ byte. byte ≢ mark) b (bs ++ mark ∷ rest) lacks)

-- a text has one first mark
pub one_cut : (mark : ℕ) (a c b d : List ℕ) → Lacks mark a → Lacks mark c → a ++ mark ∷ b ≡ c ++ mark ∷ d → (a ≡ c) × (b ≡ d)
one_cut mark [] [] b d in_a in_c same = let rest : b ≡ d = cc in (refl, rest)
one_cut mark [] (y ∷ ys) b d in_a in_c same = let is : y ≡ mark = cc in absurd (All-head (λ byte. byte ≢ mark) y ys in_c is)
one_cut mark (x ∷ xs) [] b d in_a in_c same = let is : x ≡ mark = cc in absurd (All-head (λ byte. byte ≢ mark) x xs in_a is)
one_cut mark (x ∷ xs) (y ∷ ys) b d in_a in_c same =
    let first : x ≡ y = cc in
    let more : xs ++ mark ∷ b ≡ ys ++ mark ∷ d = cc in
    let rest = one_cut mark xs ys b d (All-tail (λ byte. byte ≢ mark) x xs in_a) (All-tail (λ byte. byte ≢ mark) y ys in_c) more in
    let a = rest.0 in let fronts : x ∷ xs ≡ y ∷ ys = cc in (fronts, rest.1)

pub pow_some : (base k : ℕ) → 0 < base → 0 < base ^ k
pow_some base k some = let least : base ^ 0 ≤ base ^ k = pow-le-pow_right some (omega arith) in omega (arith, pow-zero base)

pow_more : (base k : ℕ) → base ^ (suc k + 1) ≡ base ^ suc k * base
pow_more base k = rw (add-one (suc k)) (pow-suc base (suc k))

-- the first digit
pub first_digit : (base k n : ℕ) → 0 < base → n < base ^ (suc k + 1) → n / base ^ suc k < base
first_digit base k n some small = let whole = pow_more base k in (div-lt_iff_lt-mul {k = base ^ suc k} {x = n} {y = base} (pow_some base (suc k) some)).1 (omega arith)

-- one digit before others
pub parts_some : (spell : ℕ → List ℕ) (mark base marks high low : ℕ) (text first rest : List ℕ) → (marks ≡ 0 → ⊥) → text ≡ first ++ mark ∷ rest →
    high < base → first ≡ spell high → low < base ^ (marks - 1 + 1) → rest ≡ parts_text spell mark base (marks - 1) low →
    (high * base ^ marks + low < base ^ (marks + 1)) × (text ≡ parts_text spell mark base marks (high * base ^ marks + low))
parts_some spell mark base zero high low text first rest some cut small spelled below others = absurd (some refl)
parts_some spell mark base (suc k) high low text first rest some cut small spelled below others =
    let B : ℕ → Type 0 = λ m. low < base ^ m in
    let R : ℕ → Type 0 = λ m. rest ≡ parts_text spell mark base m low in
    let less : low < base ^ suc k = subst B (omega arith) below in
    let others_are : rest ≡ parts_text spell mark base k low = subst R (omega arith) others in
    let q = div-mul-add high (base ^ suc k) low less in
    let r = mod-mul-add high (base ^ suc k) low less in
    let within : (high + 1) * base ^ suc k ≤ base * base ^ suc k = mul-le-mul_right (base ^ suc k) (omega arith) in
    let whole = pow_more base k in
    (omega arith, rw (q, r) (cut ∙ ap (λ (f : List ℕ). f ++ mark ∷ rest) spelled ∙ ap (λ (o : List ℕ). spell high ++ mark ∷ o) others_are))

-- a text without a mark,
pub parts_not_cut : (spell : ℕ → List ℕ) (mark base marks : ℕ) (text : List ℕ) → (marks ≡ 0 → ⊥) → Lacks mark text → (n : ℕ) → n < base ^ (marks + 1) → text ≢ parts_text spell mark base marks n
parts_not_cut spell mark base zero text some lacks n small same = some refl
parts_not_cut spell mark base (suc k) text some lacks n small same = has_mark mark _ _ (let P : List ℕ → Type 0 = λ t. Lacks mark t in subst P same lacks)

-- one whose front is no digit,
pub parts_not_high : (spell : ℕ → List ℕ) (mark base marks : ℕ) (text first rest : List ℕ) → (marks ≡ 0 → ⊥) → 0 < base → KeepsApart spell mark base → text ≡ first ++ mark ∷ rest → Lacks mark first →
    ((d : ℕ) → d < base → first ≢ spell d) → (n : ℕ) → n < base ^ (marks + 1) → text ≢ parts_text spell mark base marks n
parts_not_high spell mark base zero text first rest some base_some apart cut lacks none n small same = some refl
parts_not_high spell mark base (suc k) text first rest some base_some apart cut lacks none n small same =
    let high = first_digit base k n base_some small in
    none (n / base ^ suc k) high (one_cut mark first (spell (n / base ^ suc k)) rest _ lacks (apart (n / base ^ suc k) high) (sym cut ∙ same)).0

-- and one whose rest isn't the other digits
pub parts_not_low : (spell : ℕ → List ℕ) (mark base marks : ℕ) (text first rest : List ℕ) → (marks ≡ 0 → ⊥) → 0 < base → KeepsApart spell mark base → text ≡ first ++ mark ∷ rest → Lacks mark first →
    ((m : ℕ) → m < base ^ (marks - 1 + 1) → rest ≢ parts_text spell mark base (marks - 1) m) → (n : ℕ) → n < base ^ (marks + 1) → text ≢ parts_text spell mark base marks n
parts_not_low spell mark base zero text first rest some base_some apart cut lacks none n small same = some refl
parts_not_low spell mark base (suc k) text first rest some base_some apart cut lacks none n small same =
    let high = first_digit base k n base_some small in
    let below : n % base ^ suc k < base ^ suc k = mod-lt n (pow_some base (suc k) base_some) in
    let others : rest ≡ parts_text spell mark base k (n % base ^ suc k) = (one_cut mark first (spell (n / base ^ suc k)) rest _ lacks (apart (n / base ^ suc k) high) (sym cut ∙ same)).1 in
    let B : ℕ → Type 0 = λ m. n % base ^ suc k < base ^ m in
    let R : ℕ → Type 0 = λ m. rest ≡ parts_text spell mark base m (n % base ^ suc k) in
    none (n % base ^ suc k) (subst B (omega arith) below) (subst R (omega arith) others)

-- the sum of a digit and the others fits
pub parts_fit : (base marks most high low : ℕ) → 0 < base → marks ≤ most → (high * base ^ marks + low < base ^ (marks + 1)) → high * base ^ marks + low < base ^ (most + 1)
parts_fit base marks most high low some few less = let more : base ^ (marks + 1) ≤ base ^ (most + 1) = pow-le-pow_right some (omega arith) in omega arith

pub pow_fits : (base marks most : ℕ) → 0 < base → marks ≤ most → base ^ marks ≤ base ^ most
pow_fits base marks most some few = pow-le-pow_right some few

-- no dot in a number
pub octets_apart : KeepsApart decimal 46 256
octets_apart d small = decimal-lacks 46 d (omega arith)

-- no colon in a hexadecimal digit
no_colon : (d : ℕ) → digit_char d ≢ 58
no_colon d same = grind arith

pub groups_apart : KeepsApart hex4 58 65536
groups_apart g small =
    let P : ℕ → Type 0 = λ byte. byte ≢ 58 in
    let d : List ℕ = digit_char (g % 16) ∷ [] in
    let c : List ℕ = digit_char (g / 16 % 16) ∷ d in
    let b : List ℕ = digit_char (g / 256 % 16) ∷ c in
    All-cons P (digit_char (g / 4096)) b (no_colon (g / 4096)) (All-cons P (digit_char (g / 256 % 16)) c (no_colon (g / 256 % 16)) (All-cons P (digit_char (g / 16 % 16)) d (no_colon (g / 16 % 16)) (All-cons P (digit_char (g % 16)) [] (no_colon (g % 16)) (All-nil P))))
