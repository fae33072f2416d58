-- Names of hosts, and texts that are cut at their last mark.
use Rattle.std.proofs.Common.{◌≡◌, ◌≢◌, ℕ, zero, suc, ◌+◌, ◌<◌, ◌%◌, ◌/◌, ◌==◌, Bool, true, false, nat_lt, if◌then◌else◌, List, [], ◌∷◌, ◌++◌, slice_index, decimal, IsTrue, refl, sym, ap, ◌∙◌, subst, arith}
use Rattle.std.specs.List.{All}
use Rattle.std.specs.Fmt.{digits, digits_onto, digit_glyph}
use Rattle.std.specs.Char.{is_ascii_alphabetic}
use Rattle.std.proofs.lemmas.List.Elements.{All-nil, All-cons, All-weaker}
use Rattle.av_text.specs.Marks.{Lacks}
use Rattle.av_text.specs.HostPort.{AreLabels, IsDotted, IsLabel, dotted, is_label_byte, IsHostPort}
use Rattle.av_text.proofs.PartLemmas.{has_mark, one_cut}

-- ---- labels

no_dot : (byte : ℕ) → IsTrue (is_label_byte byte) → byte ≢ 46
no_dot byte is same = let test : is_label_byte 46 ≡ true = subst (λ (b : ℕ). IsTrue (is_label_byte b)) same is in cc

label_lacks : (text : List ℕ) → IsLabel text → Lacks 46 text
label_lacks text label = All-weaker (λ byte. IsTrue (is_label_byte byte)) (λ byte. byte ≢ 46) no_dot text label.bytes

begins : List ℕ → Type 0
begins text = IsTrue (is_ascii_alphabetic (slice_index text 0))

pub label_dotted : (text : List ℕ) → IsLabel text → IsTrue (is_ascii_alphabetic (slice_index text 0)) → IsDotted text
label_dotted text label letter = record { first = text; more = []; are = (label, letter); joined = refl }

one_of : (text first : List ℕ) (more : List (List ℕ)) → AreLabels (first ∷ more) → text ≡ dotted first more → Lacks 46 text
    → IsLabel text × IsTrue (is_ascii_alphabetic (slice_index text 0))
one_of text first [] are joined lacks =
    let P : List ℕ → Type 0 = λ t. IsLabel t × IsTrue (is_ascii_alphabetic (slice_index t 0)) in subst P (sym joined) are
one_of text first (next ∷ more) are joined lacks =
    absurd (has_mark 46 first (dotted next more) (subst (λ (t : List ℕ). Lacks 46 t) joined lacks))

pub one_label : (text : List ℕ) → Lacks 46 text → IsDotted text → IsLabel text × IsTrue (is_ascii_alphabetic (slice_index text 0))
one_label text lacks d = one_of text d.first d.more d.are d.joined lacks

pub join_labels : (text label rest : List ℕ) → text ≡ label ++ 46 ∷ rest → IsLabel label → IsDotted rest → IsDotted text
join_labels text label rest whole is d = record {
  first = label;
  more = d.first ∷ d.more;
  are = (is, d.are);
  joined = whole ∙ ap (λ (t : List ℕ). label ++ 46 ∷ t) d.joined;
}

cut_of : (text label rest first : List ℕ) (more : List (List ℕ)) → AreLabels (first ∷ more) → text ≡ dotted first more
    → text ≡ label ++ 46 ∷ rest → Lacks 46 label → IsLabel label × IsDotted rest
cut_of text label rest first [] are joined whole lacks =
    absurd (has_mark 46 label rest (subst (λ (t : List ℕ). Lacks 46 t) (sym joined ∙ whole) (label_lacks first are.0)))
cut_of text label rest first (next ∷ more) are joined whole lacks =
    let same = one_cut 46 first label (dotted next more) rest (label_lacks first are.0) lacks (sym joined ∙ whole) in
    (subst IsLabel same.0 are.0, record { first = next; more = more; are = are.1; joined = sym same.1 })

pub cut_labels : (text label rest : List ℕ) → text ≡ label ++ 46 ∷ rest → Lacks 46 label → IsDotted text → IsLabel label × IsDotted rest
cut_labels text label rest whole lacks d = cut_of text label rest d.first d.more d.are d.joined whole lacks

-- ---- the last mark

pub one_last_cut : (mark : ℕ) (a c b d : List ℕ) → Lacks mark b → Lacks mark d → a ++ mark ∷ b ≡ c ++ mark ∷ d → (a ≡ c) × (b ≡ d)
one_last_cut mark [] [] b d in_b in_d same = let rest : b ≡ d = cc in (refl, rest)
one_last_cut mark [] (y ∷ ys) b d in_b in_d same =
    let rest : b ≡ ys ++ mark ∷ d = cc in absurd (has_mark mark ys d (subst (λ (t : List ℕ). Lacks mark t) rest in_b))
one_last_cut mark (x ∷ xs) [] b d in_b in_d same =
    let rest : d ≡ xs ++ mark ∷ b = cc in absurd (has_mark mark xs b (subst (λ (t : List ℕ). Lacks mark t) rest in_d))
one_last_cut mark (x ∷ xs) (y ∷ ys) b d in_b in_d same =
    let first : x ≡ y = cc in
    let more : xs ++ mark ∷ b ≡ ys ++ mark ∷ d = cc in
    let rest = one_last_cut mark xs ys b d in_b in_d more in
    let a = rest.0 in let fronts : x ∷ xs ≡ y ∷ ys = cc in (fronts, rest.1)

-- digits have the codes up to 57
abbrev AreDigits : List ℕ → Type 0
AreDigits text = All (λ byte. byte < 58) text

glyph_below : (d : ℕ) (small : Bool) → nat_lt d 10 ≡ small → d < 10 → (if small then 48 + d else 87 + d) < 58
glyph_below d true is low = omega arith
glyph_below d false is low = absurd (grind (arith, is, low))

either_below : (b : Bool) (xs ys : List ℕ) → AreDigits xs → AreDigits ys → AreDigits (if b then xs else ys)
either_below true xs ys x y = x
either_below false xs ys x y = y

digits_below : (k n : ℕ) (text : List ℕ) → AreDigits text → AreDigits (digits_onto k 10 false n text)
digits_below zero n text below = below
digits_below (suc k) n text below =
    let more : AreDigits (digit_glyph false (n % 10) ∷ text) = All-cons (λ byte. byte < 58) (digit_glyph false (n % 10)) text (glyph_below (n % 10) (nat_lt (n % 10) 10) refl (omega arith)) below in
    either_below (n / 10 == 0) (digit_glyph false (n % 10) ∷ text) (digits_onto k 10 false (n / 10) (digit_glyph false (n % 10) ∷ text)) more
    (digits_below k (n / 10) (digit_glyph false (n % 10) ∷ text) more)

decimal_below : (n : ℕ) → AreDigits (decimal n)
unfolding digits
decimal_below n = digits_below 64 n [] (All-nil (λ byte. byte < 58))

decimal_lacks_colon : (n : ℕ) → Lacks 58 (decimal n)
decimal_lacks_colon n = All-weaker (λ byte. byte < 58) (λ byte. byte ≢ 58) (λ byte low same. omega arith) (decimal n) (decimal_below n)

-- a text with no colon has no port
pub no_colon : (text host : List ℕ) (port : ℕ) → Lacks 58 text → IsHostPort text host port → ⊥
no_colon text host port lacks is = has_mark 58 host (decimal port) (subst (λ (t : List ℕ). Lacks 58 t) is.whole lacks)

-- what stands before the last colon is the host, and what stands behind it the port
pub at_last_colon : (text front back host : List ℕ) (port : ℕ) → text ≡ front ++ 58 ∷ back → Lacks 58 back → IsHostPort text host port
    → (host ≡ front) × (decimal port ≡ back)
at_last_colon text front back host port whole lacks is =
    one_last_cut 58 host front (decimal port) back (decimal_lacks_colon port) lacks (sym is.whole ∙ whole)
