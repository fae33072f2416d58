-- Groups of digits.
use Rattle.std.proofs.Common.{◌≡◌, ◌≢◌, ℕ, suc, get_or, drop, ◌-◌, ◌+◌, ◌*◌, ◌^◌, ◌<◌, ◌≤◌, List, [], ◌∷◌, length, refl, sym, ap, subst, ◌∙◌, arith, inl, inr}
use Rattle.std.proofs.lemmas.List.{drop_all}
use Rattle.std.proofs.Math.Seq.{drop-cons}
use Rattle.any_prefix.proofs.TextLemmas.{pow_some, pow_fits}
use Rattle.std.proofs.lemmas.List.Elements.{All-nil, All-cons}
use Rattle.std.proofs.Math.Nat.{mul-le-mul_right, mul-le-mul_left, pow-suc}
use Rattle.any_prefix.specs.Group.{IsHexDigit, AreDigits, IsGroup}
use Rattle.av_text.specs.Marks.{Lacks}

-- ---- bytes that are no digit

-- a byte is no digit
abbrev pub IsNoDigit : ℕ → Type 0
IsNoDigit code = (d : ℕ) → ¬ IsHexDigit code d

pub no_dot : IsNoDigit 46
no_dot d (inl h) = omega (arith, h.1)
no_dot d (inr (inl h)) = omega (arith, h.2)
no_dot d (inr (inr h)) = omega (arith, h.2)

pub no_slash : IsNoDigit 47
no_slash d (inl h) = omega (arith, h.1)
no_slash d (inr (inl h)) = omega (arith, h.2)
no_slash d (inr (inr h)) = omega (arith, h.2)

pub no_colon : IsNoDigit 58
no_colon d (inl h) = omega (arith, h.0, h.1)
no_colon d (inr (inl h)) = omega (arith, h.2)
no_colon d (inr (inr h)) = omega (arith, h.0, h.2)

-- stands in no group
digits_lack : (code : ℕ) → IsNoDigit code → (so_far : ℕ) (bs : List ℕ) (n : ℕ) → AreDigits so_far bs n → Lacks code bs
digits_lack code none so_far [] n h = All-nil (λ byte. byte ≢ code)
digits_lack code none so_far (b ∷ bs) n h =
    All-cons (λ byte. byte ≢ code) b bs (λ e. none h.0 (subst (λ (c : ℕ). IsHexDigit c h.0) e h.1)) (digits_lack code none (so_far * 16 + h.0) bs n h.2)

pub group_lacks : (code : ℕ) → IsNoDigit code → (text : List ℕ) (n : ℕ) → IsGroup text n → Lacks code text
group_lacks code none text n g = digits_lack code none 0 text n g.digits

-- one text is one group
pub hex_same : (b d e : ℕ) → IsHexDigit b d → IsHexDigit b e → d ≡ e
hex_same b d e (inl h) (inl k) = omega (arith, h.1, k.1)
hex_same b d e (inl h) (inr (inl k)) = omega (arith, h.0, h.1, k.0, k.1, k.2)
hex_same b d e (inl h) (inr (inr k)) = omega (arith, h.0, h.1, k.0, k.1, k.2)
hex_same b d e (inr (inl h)) (inl k) = omega (arith, h.0, h.1, h.2, k.0, k.1)
hex_same b d e (inr (inl h)) (inr (inl k)) = omega (arith, h.2, k.2)
hex_same b d e (inr (inl h)) (inr (inr k)) = omega (arith, h.0, h.1, h.2, k.0, k.1, k.2)
hex_same b d e (inr (inr h)) (inl k) = omega (arith, h.0, h.1, h.2, k.0, k.1)
hex_same b d e (inr (inr h)) (inr (inl k)) = omega (arith, h.0, h.1, h.2, k.0, k.1, k.2)
hex_same b d e (inr (inr h)) (inr (inr k)) = omega (arith, h.2, k.2)

digits_same : (so_far : ℕ) (bs : List ℕ) (m n : ℕ) → AreDigits so_far bs m → AreDigits so_far bs n → m ≡ n
digits_same so_far [] m n h k = h ∙ sym k
digits_same so_far (b ∷ bs) m n h k =
    digits_same (so_far * 16 + k.0) bs m n (subst (λ (d : ℕ). AreDigits (so_far * 16 + d) bs m) (hex_same b h.0 k.0 h.1 k.1) h.2) k.2

pub group_same : (text : List ℕ) (m n : ℕ) → IsGroup text m → IsGroup text n → m ≡ n
group_same text m n g h = digits_same 0 text m n g.digits h.digits

pub digits_fit : (s d n : ℕ) → d < 16 → (s + 1) * 16 ^ suc n ≤ 65536 → (s * 16 + d + 1) * 16 ^ n ≤ 65536
digits_fit s d n small fits =
    let le : s * 16 + d + 1 ≤ (s + 1) * 16 = omega (arith, small) in
    let more : (s * 16 + d + 1) * 16 ^ n ≤ (s + 1) * 16 * 16 ^ n = mul-le-mul_right (16 ^ n) le in
    let e : (s + 1) * 16 ^ suc n ≡ (s + 1) * (16 ^ n * 16) = ap (λ (k : ℕ). (s + 1) * k) (pow-suc 16 n) in
    omega (arith, more, fits, e)

pub fits_now : (s n : ℕ) → (s + 1) * 16 ^ n ≤ 65536 → s + 1 ≤ 65536
fits_now s n fits =
    let one : 1 ≤ 16 ^ n = pow_some 16 n (omega arith) in
    let le : (s + 1) * 1 ≤ (s + 1) * 16 ^ n = mul-le-mul_left (s + 1) one in
    omega (arith, le, fits)

pub four_fit : (n : ℕ) → n ≤ 4 → (0 + 1) * 16 ^ n ≤ 65536
four_fit n few = let le : 16 ^ n ≤ 16 ^ 4 = pow_fits 16 n 4 (omega arith) few in omega (arith, le)

-- ---- digits one after another

pub step_to : (v d i n : ℕ) (text : List ℕ) → i < length text → ((e : ℕ) → IsHexDigit (get_or text i 0) e → e ≡ d) → AreDigits v (drop i text) n → AreDigits (v * 16 + d) (drop (suc i) text) n
step_to v d i n text below only h =
    let s = subst (λ (bs : List ℕ). AreDigits v bs n) (drop-cons text i 0 below) h in
    subst (λ (e : ℕ). AreDigits (v * 16 + e) (drop (suc i) text) n) (only s.0 s.1) s.2

pub step_from : (v d i n : ℕ) (text : List ℕ) → i < length text → IsHexDigit (get_or text i 0) d → AreDigits (v * 16 + d) (drop (suc i) text) n → AreDigits v (drop i text) n
step_from v d i n text below is h = subst (λ (bs : List ℕ). AreDigits v bs n) (sym (drop-cons text i 0 below)) (d, is, h)

pub no_digit : (v i n : ℕ) (text : List ℕ) → i < length text → ((e : ℕ) → IsHexDigit (get_or text i 0) e → ⊥) → AreDigits v (drop i text) n → ⊥
no_digit v i n text below none h = let s = subst (λ (bs : List ℕ). AreDigits v bs n) (drop-cons text i 0 below) h in none s.0 s.1

pub fits_next : (v d i len : ℕ) → i < len → d < 16 → (v + 1) * 16 ^ (len - i) ≤ 65536 → (v * 16 + d + 1) * 16 ^ (len - suc i) ≤ 65536
fits_next v d i len below small fits =
    let e : len - i ≡ suc (len - suc i) = omega (arith, below) in
    digits_fit v d (len - suc i) small (subst (λ (k : ℕ). (v + 1) * 16 ^ k ≤ 65536) e fits)

pub all_read : (v i : ℕ) (text : List ℕ) → length text ≤ i → AreDigits v (drop i text) v
all_read v i text past = subst (λ (bs : List ℕ). AreDigits v bs v) (sym (drop_all i text past)) refl

pub less_none : (n : ℕ) → n ≡ n - 0
less_none n = omega arith
