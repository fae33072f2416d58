-- What stands at the front of some bytes is determined. Proofs above cite these.
use Rattle.std.proofs.Common.{◌≡◌, ℕ, suc, ◌+◌, ◌<◌, List, [], ◌++◌, length, refl, sym, ap, ◌∙◌, append_assoc, length-append, arith, slice_get, Some, None}
use Rattle.std.proofs.lemmas.List.{append_cancel_right}
use Rattle.der_reader.specs.Number.{number}
use Rattle.der_reader.specs.Value.{Spells, Begins}
use Rattle.der_reader.specs.Integer.{TakesInteger}
use Rattle.der_reader.proofs.GivenLemmas.{ok_same}
use Rattle.der_reader.proofs.AgainLemmas.{begins_again}

-- bytes begin with one value of a tag
pub one_front : (tag : ℕ) (bytes c d x y : List ℕ) → Begins tag bytes c x → Begins tag bytes d y → (c ≡ d) × (x ≡ y)
one_front tag bytes c d x y s t =
    let same = ok_same (c, x) (d, y) (sym (begins_again tag bytes c x s) ∙ begins_again tag bytes d y t) in
    (ap (λ (p : List ℕ × List ℕ). p.0) same, ap (λ (p : List ℕ × List ℕ). p.1) same)

-- no spelling is a front of a different one
pub one_spelling : (tag : ℕ) (c d a b x y : List ℕ) → Spells tag c a → Spells tag d b → a ++ x ≡ b ++ y → (a ≡ b) × (c ≡ d)
one_spelling tag c d a b x y s t e =
    let same = one_front tag (a ++ x) c d x y (record { front = a; spelled = s; whole = refl }) (record { front = b; spelled = t; whole = e }) in
    (append_cancel_right a b y (ap (λ (r : List ℕ). a ++ r) (sym same.1) ∙ e), same.0)

-- bytes begin with one INTEGER
pub one_integer_front : (bytes : List ℕ) (m n : ℕ) (x y : List ℕ) → TakesInteger bytes m x → TakesInteger bytes n y
    → (m ≡ n) × (x ≡ y)
one_integer_front bytes m n x y s t =
    let same = one_front 2 bytes s.content t.content x y s.begins t.begins in
    (sym s.value.value ∙ ap number same.0 ∙ t.value.value, same.1)

-- bytes that begin with a value begin with its tag
pub begins_tag : (tag : ℕ) (bytes c x : List ℕ) → Begins tag bytes c x → slice_get bytes 0 ≡ Some tag
begins_tag tag bytes c x s = ap (λ (b : List ℕ). slice_get b 0) (s.whole ∙ ap (λ (f : List ℕ). f ++ x) s.spelled.whole)

none_some : {tag : ℕ} → Some tag ≡ None → ⊥
none_some e = cc

-- so there are some
pub begins_some : (tag : ℕ) (bytes c x : List ℕ) → Begins tag bytes c x → bytes ≡ [] → ⊥
begins_some tag bytes c x s none =
    let nothing : slice_get bytes 0 ≡ None = ap (λ (b : List ℕ). slice_get b 0) none in
    none_some (sym (begins_tag tag bytes c x s) ∙ nothing)

-- and fewer after it
pub begins_shorter : (tag : ℕ) (bytes c x : List ℕ) → Begins tag bytes c x → length x < length bytes
begins_shorter tag bytes c x s =
    let front : length s.front ≡ suc (length (s.spelled.octets ++ c)) = ap (λ (f : List ℕ). length f) s.spelled.whole in
    let all : length bytes ≡ length s.front + length x = ap (λ (b : List ℕ). length b) s.whole ∙ length-append s.front x in
    omega arith

-- what follows goes along
pub begins_more : (tag : ℕ) (bytes c x more : List ℕ) → Begins tag bytes c x → Begins tag (bytes ++ more) c (x ++ more)
begins_more tag bytes c x more s =
    record { front = s.front; spelled = s.spelled; whole = ap (λ (b : List ℕ). b ++ more) s.whole ∙ append_assoc s.front x more }

pub takes_more : (bytes : List ℕ) (n : ℕ) (x more : List ℕ) → TakesInteger bytes n x
    → TakesInteger (bytes ++ more) n (x ++ more)
takes_more bytes n x more t = record { content = t.content; begins = begins_more 2 bytes t.content x more t.begins; value = t.value }
