-- Two colons in a text.
use Rattle.std.proofs.Common.{◌≡◌, ℕ, ◌+◌, ◌-◌, ◌*◌, ◌^◌, ◌<◌, ◌≤◌, Bool, true, false, List, [], ◌∷◌, ◌++◌, length, get_or, refl, sym, ap, subst, ◌∙◌, arith, ◌⊎◌, inl, inr}
use Rattle.std.proofs.Math.ListN.{get_or-append}
use Rattle.std.proofs.Math.Seq.{get_or-append_seam}
use Rattle.std.proofs.lemmas.List.{get_or-append-add, length-append}
use Rattle.std.proofs.lemmas.Nat.{mul-add-lt, pow-add}
use Rattle.any_prefix.proofs.TextLemmas.{pow_fits}
use Rattle.any_prefix.specs.declared.run.Run.{Run}
use Rattle.any_prefix.specs.AnyAddress.{joined, IsRun, IsFull, IsCompressed, number_of_groups}
use Rattle.any_prefix.specs.Reading.{IsFirstDouble, IsReadPart}
use Rattle.any_prefix.proofs.RunLemmas.{colon_inside}

pub double_at : (text l r : List ℕ) → text ≡ l ++ 58 ∷ 58 ∷ r → (get_or text (length l) 0 ≡ 58) × (get_or text (length l + 1) 0 ≡ 58) × (length l + 1 < length text)
double_at text l r is = (
  ap (λ (t : List ℕ). get_or t (length l) 0) is ∙ get_or-append_seam l 58 (58 ∷ r) 0,
  ap (λ (t : List ℕ). get_or t (length l + 1) 0) is ∙ get_or-append-add l (58 ∷ 58 ∷ r) 1 0,
  omega (arith, ap (λ (t : List ℕ). length t) is, length-append l (58 ∷ 58 ∷ r)),
)

-- no double before a place
abbrev pub NoneBefore : List ℕ → ℕ → Type 0
NoneBefore text at = (k : ℕ) → k + 1 < at → get_or text k 0 ≡ 58 → get_or text (k + 1) 0 ≡ 58 → ⊥

below_or : (k n : ℕ) → (k < n) ⊎ (n ≤ k)
below_or k n = search arith

pub first_double : (text : List ℕ) (at : ℕ) → 1 ≤ at → NoneBefore text at → IsFirstDouble text (at - 1)
first_double text at some none l r is = elim (below_or (length l) (at - 1)) [
  | inl lt ↦ let d = double_at text l r is in absurd (none (length l) (omega (arith, lt, some)) d.0 d.1)
  | inr le ↦ le
]

pub no_doubles : (text : List ℕ) (at : ℕ) → length text ≤ at → NoneBefore text at → (l r : List ℕ) → text ≡ l ++ 58 ∷ 58 ∷ r → ⊥
no_doubles text at past none l r is = let d = double_at text l r is in none (length l) (omega (arith, d.2, past)) d.0 d.1

at_or : (k at : ℕ) → k + 1 < at + 1 → (k + 1 < at) ⊎ (k + 1 ≡ at)
at_or k at lt = search arith

pub none_next : (text : List ℕ) (at : ℕ) → 1 ≤ at → NoneBefore text at → ((get_or text (at - 1) 0 ≡ 58) × (get_or text (at - 1 + 1) 0 ≡ 58) → ⊥) → NoneBefore text (at + 1)
none_next text at some none here k lt e f = elim (at_or k at lt) [
  | inl before ↦ none k before e f
  | inr is ↦
      let j : k ≡ at - 1 = omega (arith, is) in
      here (ap (λ (n : ℕ). get_or text n 0) (sym j) ∙ e, ap (λ (n : ℕ). get_or text (n + 1) 0) (sym j) ∙ f)
]

-- a run has no double
pub run_single : (last : Bool) (text gs l r : List ℕ) → IsRun last text gs → text ≡ l ++ 58 ∷ 58 ∷ r → ⊥
run_single last text gs l r run is =
    let d = double_at (joined run.pieces) l r (sym run.joins ∙ is) in
    let inside = colon_inside last run.pieces gs (length l) run.are (omega (arith, d.2)) d.0 in
    inside.1 d.1

same_front : (a b c d : List ℕ) → length a ≡ length c → a ++ b ≡ c ++ d → (a ≡ c) × (b ≡ d)
same_front [] b [] d lens e = (refl, e)
same_front [] b (y ∷ ys) d lens e = absurd (omega (arith, lens))
same_front (x ∷ xs) b [] d lens e = absurd (omega (arith, lens))
same_front (x ∷ xs) b (y ∷ ys) d lens e =
    let head : x ≡ y = cc in
    let tail : xs ++ b ≡ ys ++ d = cc in
    let more = same_front xs b ys d (omega (arith, lens)) tail in
    ((λ i. head i ∷ more.0 i), more.1)

below_or_same : (k n : ℕ) → k ≤ n → (k < n) ⊎ (k ≡ n)
below_or_same k n le = search arith

-- the first double is the only one that a compressed address can have
pub aligned_from : (text left right l r gs : List ℕ) → text ≡ left ++ 58 ∷ 58 ∷ right → length left ≤ length l → text ≡ l ++ 58 ∷ 58 ∷ r → IsRun false l gs → (l ≡ left) × (r ≡ right)
aligned_from text left right l r gs whole le is run = elim (below_or_same (length left) (length l) le) [
  | inr same ↦
      let e = same_front l (58 ∷ 58 ∷ r) left (58 ∷ 58 ∷ right) (sym same) (sym is ∙ whole) in
      let rest : r ≡ right = let f = e.1 in cc in (e.0, rest)
  | inl lt ↦
      let d = double_at text left right whole in
      let at : get_or l (length left) 0 ≡ 58 = sym (get_or-append l (58 ∷ 58 ∷ r) 0 (length left) lt) ∙ ap (λ (t : List ℕ). get_or t (length left) 0) (sym is) ∙ d.0 in
      let inside = colon_inside false run.pieces gs (length left) run.are (omega (arith, lt, ap (λ (t : List ℕ). length t) run.joins)) (ap (λ (t : List ℕ). get_or t (length left) 0) (sym run.joins) ∙ at) in
      let next : length left + 1 < length l = omega (arith, inside.0, ap (λ (t : List ℕ). length t) run.joins) in
      absurd (inside.1 (ap (λ (t : List ℕ). get_or t (length left + 1) 0) (sym run.joins) ∙ sym (get_or-append l (58 ∷ 58 ∷ r) 0 (length left + 1) next) ∙ ap (λ (t : List ℕ). get_or t (length left + 1) 0) (sym is) ∙ d.1))
]

pub aligned : (text left right l r gs : List ℕ) → text ≡ left ++ 58 ∷ 58 ∷ right → IsFirstDouble text (length left) → text ≡ l ++ 58 ∷ 58 ∷ r → IsRun false l gs → (l ≡ left) × (r ≡ right)
aligned text left right l r gs whole first is run = aligned_from text left right l r gs whole (first l r is) is run

pub none_compressed : (text left right : List ℕ) (n : ℕ) → text ≡ left ++ 58 ∷ 58 ∷ right → IsFirstDouble text (length left)
    → ((high low : List ℕ) → IsRun false left high → IsRun true right low → length high + length low ≤ 7 → ⊥) → IsFull text n ⊎ IsCompressed text n → ⊥
none_compressed text left right n whole first none h = elim h [
  | inl full ↦ run_single true text full.groups left right full.run whole
  | inr c ↦
      let e = aligned text left right c.left c.right c.high whole first c.splits c.high_run in
      none c.high c.low (subst (λ (t : List ℕ). IsRun false t c.high) e.0 c.high_run) (subst (λ (t : List ℕ). IsRun true t c.low) e.1 c.low_run) c.some_left
]

-- ---- the number of both runs

pub both_fit : (c d high low : ℕ) → 1 ≤ c → c ≤ 7 → d ≤ 7 - c → high < 65536 ^ c → low < 65536 ^ d → high * 65536 ^ (8 - c) + low < 340282366920938463463374607431768211456
both_fit c d high low some few rest a b =
    let le : 65536 ^ d ≤ 65536 ^ (8 - c) = pow_fits 65536 d (8 - c) (omega arith) (omega (arith, rest)) in
    let lt : high * 65536 ^ (8 - c) + low < 65536 ^ (8 - c) * 65536 ^ c = mul-add-lt high (65536 ^ (8 - c)) low (65536 ^ c) a (omega (arith, b, le)) in
    let e : 65536 ^ 8 ≡ 65536 ^ (8 - c) * 65536 ^ c = ap (λ (k : ℕ). 65536 ^ k) (whole c few) ∙ pow-add 65536 (8 - c) c in
    omega (arith, lt, e) where
      whole : (c : ℕ) → c ≤ 7 → 8 ≡ 8 - c + c
      whole c few = omega (arith, few)

pub both_read : (left right : List ℕ) (most : ℕ) (high low : Run) (n : ℕ) → IsReadPart false left most high → IsReadPart true right (7 - high.count) low → 1 ≤ high.count → most ≤ 7
    → n ≡ high.number * 65536 ^ (8 - high.count) + low.number → IsCompressed (left ++ 58 ∷ 58 ∷ right) n × (n < 340282366920938463463374607431768211456)
both_read left right most high low n h l some few is = (
  record {
    left = left;
    right = right;
    high = h.groups;
    low = l.groups;
    splits = refl;
    high_run = h.is;
    low_run = l.is;
    some_left = omega (arith, h.count, l.count, h.few, l.few, few);
    number = is ∙ ap (λ (k : ℕ). high.number * 65536 ^ (8 - k) + low.number) h.count ∙ ap (λ (m : ℕ). m * 65536 ^ (8 - length h.groups) + low.number) h.number
        ∙ ap (λ (m : ℕ). number_of_groups h.groups * 65536 ^ (8 - length h.groups) + m) l.number;
  },
  subst (λ (m : ℕ). m < 340282366920938463463374607431768211456) (sym is) (both_fit high.count low.count high.number low.number some (omega (arith, h.few, few)) l.few h.small l.small),
)
