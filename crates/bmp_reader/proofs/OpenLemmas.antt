-- OPENs are read exactly where they are.
use Rattle.std.proofs.Common.{◌≡◌, ℕ, ◌+◌, ◌-◌, ◌≤◌, Bool, true, false, cond, List, [], ◌∷◌, ◌++◌, length, Some, None, refl, sym, ap, subst, ◌∙◌, append_assoc, arith}
use Rattle.std.specs.Prelude.{◌==◌, nat_lt, option_and_then}
use Rattle.std.specs.declared.option.Option.{Option}
use Rattle.std.proofs.lemmas.Option.{same_Some, some_pair_parts}
use Rattle.std.proofs.lemmas.List.{length-append}
use Rattle.std.proofs.lemmas.Bool.Decides.{nat_tests}
use Rattle.held_bytes.specs.Units.{Begins}
use Rattle.bgp_attrs.specs.Blocks.{IsLength}
use Rattle.bgp_attrs.specs.Joined.{IsReader}
use Rattle.bgp_attrs.proofs.FixedLemmas.{and_then_some, and_then_is, cut_at, cut_finds, byte_finds, two_finds, two_only}
use Rattle.bgp_update.specs.Frames.{marker}
use Rattle.bmp_reader.specs.Opens.{Open, IsOpen}
use Rattle.bgp_attrs.specs.Fixed.{cut, byte_at, two_at}
use Rattle.bmp_reader.specs.Readers.{behind_of, left_of, opening_at, open_at}

-- ---- the bytes behind others

behind_finds : (front bytes rest : List ℕ) → behind_of front bytes ≡ Some rest → bytes ≡ front ++ rest
behind_finds [] bytes rest e = same_Some bytes rest e
behind_finds (x ∷ front) [] rest e = absurd cc
behind_finds (x ∷ front) (b ∷ bytes) rest e = by_test (b == x) refl e (behind_finds front bytes rest)
  where
    by_test : (same : Bool) → (b == x) ≡ same → cond same (behind_of front bytes) None ≡ Some rest → (behind_of front bytes ≡ Some rest → bytes ≡ front ++ rest) → b ∷ bytes ≡ x ∷ (front ++ rest)
    by_test true t f others = (let first : b ≡ x = grind (arith, nat_tests) in λ i. first i ∷ others f i)
    by_test false t f others = absurd cc

behind_at : (front rest : List ℕ) → behind_of front (front ++ rest) ≡ Some rest
behind_at [] rest = refl
behind_at (x ∷ front) rest = let test : (x == x) ≡ true = grind (arith, nat_tests) in rw test (behind_at front rest)

pub behind_some : (front bytes rest : List ℕ) → bytes ≡ front ++ rest → Some rest ≡ behind_of front bytes
behind_some front bytes rest e = sym (ap (behind_of front) e ∙ behind_at front rest)

pub behind_none : (front bytes : List ℕ) → ((rest : List ℕ) → bytes ≡ front ++ rest → ⊥) → None ≡ behind_of front bytes
behind_none front bytes none = by_found (behind_of front bytes) refl
  where
    by_found : (found : Option (List ℕ)) → behind_of front bytes ≡ found → None ≡ found
    by_found None e = refl
    by_found (Some rest) e = absurd (none rest (behind_finds front bytes rest e))

-- ---- what is left of a message

left_some : (b : Bool) (front size : ℕ) (bytes : List ℕ) (x : List ℕ × List ℕ) → nat_lt size front ≡ b → cond b None (cut (size - front) bytes) ≡ Some x → (front ≤ size) × (length x.0 ≡ size - front) × (bytes ≡ x.0 ++ x.1)
left_some true front size bytes x t e = absurd cc
left_some false front size bytes x t e = let c = cut_finds (size - front) bytes x e in (grind (arith, nat_tests), c.0, c.1)

left_at : (front : ℕ) (part rest : List ℕ) (size : ℕ) → size ≡ front + length part → left_of front size (part ++ rest) ≡ Some (part, rest)
left_at front part rest size e =
    let test : nat_lt size front ≡ false = (let long : front ≤ size = omega arith in grind (arith, nat_tests)) in
    rw test (cut_at (size - front) part rest (omega arith))

-- ---- the header

-- the bytes are the marker, a size, the type 1 and a rest
record Opens (bytes : List ℕ) (size : ℕ) (rest : List ℕ) : Type 0 where
  count : List ℕ
  counts : IsLength true count size
  whole : bytes ≡ marker ++ (count ++ (1 ∷ rest))

opening_finds : (bytes : List ℕ) (x : ℕ × List ℕ) → opening_at bytes ≡ Some x → Opens bytes x.0 x.1
unfolding opening_at
opening_finds bytes x e =
    let a = and_then_some _ (behind_of marker bytes) x e in
    let b = and_then_some _ (two_at a.0) x a.2 in
    let c = and_then_some _ (behind_of (1 ∷ []) b.0.1) x b.2 in
    let made = some_pair_parts b.0.0 x.0 c.0 x.1 c.2 in
    let p = behind_finds marker bytes a.0 a.1 in
    let q = two_finds a.0 b.0.0 b.0.1 b.1 in
    let r = behind_finds (1 ∷ []) b.0.1 c.0 c.1 in
    record {
      count = q.0;
      counts = subst (λ (n : ℕ). IsLength true q.0 n) made.0 q.1;
      whole = p ∙ ap (λ (xs : List ℕ). marker ++ xs) (q.2 ∙ ap (λ (xs : List ℕ). q.0 ++ xs) (r ∙ ap (λ (xs : List ℕ). 1 ∷ xs) made.1));
    }

-- what follows a size, and what follows the marker
abbrev typed_of : ℕ × List ℕ → Option (ℕ × List ℕ)
typed_of size = option_and_then (λ (typed : List ℕ). Some (size.0, typed)) (behind_of (1 ∷ []) size.1)

abbrev sized_of : List ℕ → Option (ℕ × List ℕ)
sized_of marked = option_and_then typed_of (two_at marked)

-- without the marker there is none
pub no_opening : (bytes : List ℕ) → ((rest : List ℕ) → bytes ≡ marker ++ rest → ⊥) → None ≡ opening_at bytes
unfolding opening_at
no_opening bytes none = ap (option_and_then sized_of) (behind_none marker bytes none)

opening_here : (count rest : List ℕ) (size : ℕ) → IsLength true count size → opening_at (marker ++ (count ++ (1 ∷ rest))) ≡ Some (size, rest)
unfolding opening_at
opening_here count rest size counts =
    and_then_is sized_of (behind_of marker (marker ++ (count ++ (1 ∷ rest)))) (count ++ (1 ∷ rest)) (Some (size, rest)) (behind_at marker (count ++ (1 ∷ rest)))
    (and_then_is typed_of (two_at (count ++ (1 ∷ rest))) (size, 1 ∷ rest) (Some (size, rest)) (two_only count size (1 ∷ rest) counts) refl)

-- ---- the whole

regrouped : (mark count fields : List ℕ) (n : ℕ) (parameters rest : List ℕ) → (mark ++ (count ++ (1 ∷ (fields ++ (n ∷ parameters))))) ++ rest ≡ mark ++ (count ++ (1 ∷ (fields ++ (n ∷ (parameters ++ rest)))))
regrouped mark count fields n parameters rest = simp append_assoc

front_long : (count fields : List ℕ) (n : ℕ) (parameters : List ℕ) → length count ≡ 2 → length fields ≡ 9 → length (marker ++ (count ++ (1 ∷ (fields ++ (n ∷ parameters))))) ≡ 29 + length parameters
front_long count fields n parameters two nine =
    omega (arith, length-append marker (count ++ (1 ∷ (fields ++ (n ∷ parameters)))), length-append count (1 ∷ (fields ++ (n ∷ parameters))), length-append fields (n ∷ parameters))

open_finds : (bytes : List ℕ) (it : Open) (rest : List ℕ) → open_at bytes ≡ Some (it, rest) → Begins IsOpen bytes it rest
unfolding open_at
open_finds bytes it rest e =
    let a = and_then_some _ (opening_at bytes) (it, rest) e in
    let b = and_then_some _ (cut 9 a.0.1) (it, rest) a.2 in
    let c = and_then_some _ (byte_at b.0.1) (it, rest) b.2 in
    let d = and_then_some _ (left_of 29 a.0.0 c.0.1) (it, rest) c.2 in
    let made = some_pair_parts (record { count = c.0.0; parameters = d.0.0 }) it d.0.1 rest d.2 in
    let p = opening_finds bytes a.0 a.1 in
    let q = cut_finds 9 a.0.1 b.0 b.1 in
    let r = byte_finds b.0.1 c.0.0 c.0.1 c.1 in
    let s = left_some (nat_lt a.0.0 29) 29 a.0.0 c.0.1 d.0 refl d.1 in
    let front : List ℕ = marker ++ (p.count ++ (1 ∷ (b.0.0 ++ (c.0.0 ∷ d.0.0)))) in
    let two : length p.count ≡ 2 = p.counts.0 in
    let enough : 29 ≤ a.0.0 = s.0 in
    let size : a.0.0 ≡ length front = omega (arith, s.1, front_long p.count b.0.0 c.0.0 d.0.0 two q.0) in
    let behind : a.0.1 ≡ b.0.0 ++ (c.0.0 ∷ (d.0.0 ++ rest)) =
    q.1 ∙ ap (λ (xs : List ℕ). b.0.0 ++ xs) (r ∙ ap (λ (xs : List ℕ). c.0.0 ∷ xs) (s.2 ∙ ap (λ (xs : List ℕ). d.0.0 ++ xs) made.1)) in
    subst (λ (o : Open). Begins IsOpen bytes o rest) made.0 (record {
      front = front;
      spelled = record { fields = b.0.0; nine = q.0; framed = record { count = p.count; whole = refl; counts = (two, p.counts.1 ∙ size) } };
      whole = p.whole ∙ ap (λ (xs : List ℕ). marker ++ (p.count ++ (1 ∷ xs))) behind ∙ sym (regrouped marker p.count b.0.0 c.0.0 d.0.0 rest);
    })

open_here : (count fields rest : List ℕ) (it : Open) (size : ℕ) → IsLength true count size → length fields ≡ 9 → size ≡ 29 + length it.parameters
    → open_at (marker ++ (count ++ (1 ∷ (fields ++ (it.count ∷ (it.parameters ++ rest)))))) ≡ Some (it, rest)
unfolding open_at
open_here count fields rest it size counts nine long =
    let r3 = it.parameters ++ rest in
    let r2 = it.count ∷ r3 in
    let r1 = fields ++ r2 in
    and_then_is _ (opening_at (marker ++ (count ++ (1 ∷ r1)))) (size, r1) (Some (it, rest)) (opening_here count r1 size counts)
    (and_then_is _ (cut 9 r1) (fields, r2) (Some (it, rest)) (cut_at 9 fields r2 nine)
    (and_then_is _ (left_of 29 size r3) (it.parameters, rest) (Some (it, rest)) (left_at 29 it.parameters rest size long) refl))

open_only : (bytes : List ℕ) (it : Open) (rest : List ℕ) → Begins IsOpen bytes it rest → open_at bytes ≡ Some (it, rest)
open_only bytes it rest b =
    let s = b.spelled in
    let f = s.framed in
    let long : length b.front ≡ 29 + length it.parameters = ap length f.whole ∙ front_long f.count s.fields it.count it.parameters f.counts.0 s.nine in
    let bytes-is = b.whole ∙ ap (λ (xs : List ℕ). xs ++ rest) f.whole ∙ regrouped marker f.count s.fields it.count it.parameters rest in
    ap open_at bytes-is ∙ open_here f.count s.fields rest it (length b.front) f.counts s.nine long

pub open_reader : IsReader IsOpen open_at
open_reader = record { finds = open_finds; only = open_only; some = λ front it s. omega (arith, ap length s.framed.whole, front_long s.framed.count s.fields it.count it.parameters s.framed.counts.0 s.nine) }
