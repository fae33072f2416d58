-- Whole records at the front of a stream.
use Rattle.std.proofs.Common.{◌≡◌, ℕ, ◌+◌, ◌<◌, ◌≤◌, Bool, true, false, cond, List, ◌++◌, length, take, drop, Some, None, refl, sym, ap, subst, ◌∙◌, append_assoc, arith}
use Rattle.std.specs.Prelude.{nat_lt}
use Rattle.std.specs.Int.{w16, w32, from_be_bytes}
use Rattle.std.proofs.lemmas.Option.{same_Some}
use Rattle.std.proofs.lemmas.List.{take-append-drop, take_at, drop_at, length-take, length-drop, length-append, drop-drop, drop-take, take-append-le, drop-append-le}
use Rattle.std.proofs.lemmas.Bool.Decides.{nat_tests}
use Rattle.held_bytes.specs.Units.{Begins}
use Rattle.mrt_reader.specs.Records.{Head, head_at, limit, Recorded, IsRecord}
use Rattle.mrt_reader.specs.Coming.{IsPartial}

abbrev numbers : List ℕ → Head
numbers bytes = record {
  stamp = from_be_bytes w32 (take 4 bytes);
  mrt_type = from_be_bytes w16 (take 2 (drop 4 bytes));
  subtype = from_be_bytes w16 (take 2 (drop 6 bytes));
  size = from_be_bytes w32 (take 4 (drop 8 bytes));
}

head_is : (bytes : List ℕ) → 12 ≤ length bytes → head_at bytes ≡ Some (numbers bytes)
head_is bytes long = let test : nat_lt (length bytes) 12 ≡ false = grind (arith, nat_tests) in rw test refl

-- what a header says doesn't depend on what follows it
pub head_front : (header rest : List ℕ) → length header ≡ 12 → head_at (header ++ rest) ≡ head_at header
head_front header rest e =
    let long : 12 ≤ length (header ++ rest) = omega (arith, length-append header rest) in
    let same : numbers (header ++ rest) ≡ numbers header = rw (
      take-append-le 4 header rest (omega arith),
      drop-append-le 4 header rest (omega arith),
      drop-append-le 6 header rest (omega arith),
      drop-append-le 8 header rest (omega arith),
      take-append-le 2 (drop 4 header) rest (omega (arith, length-drop 4 header)),
      take-append-le 2 (drop 6 header) rest (omega (arith, length-drop 6 header)),
      take-append-le 4 (drop 8 header) rest (omega (arith, length-drop 8 header)),
    ) refl in
    head_is (header ++ rest) long ∙ ap Some same ∙ sym (head_is header (omega arith))

-- a whole record at the front is what the header says
pub record_head : (bytes : List ℕ) (it : Recorded) (rest : List ℕ) (b : Begins IsRecord bytes it rest)
    → (head_at bytes ≡ Some (record { stamp = it.stamp; mrt_type = it.kind; subtype = it.subkind; size = length it.body })) × (length bytes ≡ 12 + length it.body + length rest)
record_head bytes it rest b =
    let s = b.spelled in
    let bytes-is : bytes ≡ s.header ++ (it.body ++ rest) = b.whole ∙ ap (λ (xs : List ℕ). xs ++ rest) s.whole ∙ append_assoc s.header it.body rest in
    (ap head_at bytes-is ∙ head_front s.header (it.body ++ rest) s.twelve ∙ s.says, omega (arith, s.twelve, ap length bytes-is, length-append s.header (it.body ++ rest), length-append it.body rest))

-- the first record, where it is whole
pub record_made : (bytes : List ℕ) (head : Head) → head_at bytes ≡ Some head → head.size ≤ limit → 12 + head.size ≤ length bytes
    → Begins IsRecord bytes (record { stamp = head.stamp; kind = head.mrt_type; subkind = head.subtype; body = take head.size (drop 12 bytes) }) (drop head.size (drop 12 bytes))
record_made bytes head e allowed long =
    let body = take head.size (drop 12 bytes) in
    let size : length body ≡ head.size = omega (arith, length-take head.size (drop 12 bytes), length-drop 12 bytes) in
    let twelve : length (take 12 bytes) ≡ 12 = omega (arith, length-take 12 bytes) in
    let says : head_at (take 12 bytes) ≡ Some head = sym (head_front (take 12 bytes) (drop 12 bytes) twelve) ∙ ap head_at (take-append-drop 12 bytes) ∙ e in
    record {
      front = take 12 bytes ++ body;
      spelled = record { header = take 12 bytes; twelve = twelve; says = says ∙ ap (λ (n : ℕ). Some (record { stamp = head.stamp; mrt_type = head.mrt_type; subtype = head.subtype; size = n })) (sym size); allowed = omega arith; whole = refl };
      whole = sym (take-append-drop 12 bytes) ∙ ap (λ (xs : List ℕ). take 12 bytes ++ xs) (sym (take-append-drop head.size (drop 12 bytes))) ∙ sym (append_assoc (take 12 bytes) body (drop head.size (drop 12 bytes)));
    }

head_short : (bytes : List ℕ) → head_at bytes ≡ None → length bytes < 12 + limit
head_short bytes none = by_test (nat_lt (length bytes) 12) refl none
  where
    by_test : (short : Bool) → nat_lt (length bytes) 12 ≡ short → cond short None (Some (numbers bytes)) ≡ None → length bytes < 12 + limit
    by_test true e f = (let less : length bytes < 12 = grind (arith, nat_tests) in omega arith)
    by_test false e f = absurd cc

pub head_long : (bytes : List ℕ) (head : Head) → head_at bytes ≡ Some head → 12 ≤ length bytes
head_long bytes head e = by_test (nat_lt (length bytes) 12) refl e
  where
    by_test : (short : Bool) → nat_lt (length bytes) 12 ≡ short → cond short None (Some (numbers bytes)) ≡ Some head → 12 ≤ length bytes
    by_test true t f = absurd cc
    by_test false t f = grind (arith, nat_tests)

pub partial_short : (bytes : List ℕ) → head_at bytes ≡ None → IsPartial bytes
partial_short bytes none = record {
  no_record = λ it rest b. (let u = record_head bytes it rest b in cc);
  allowed = rw none tt;
  short = head_short bytes none;
}

pub partial_cut : (bytes : List ℕ) (head : Head) → head_at bytes ≡ Some head → head.size ≤ limit → length bytes < 12 + head.size → IsPartial bytes
partial_cut bytes head e allowed cut = record {
  no_record = λ it rest b. (let u = record_head bytes it rest b in let f : Some (record { stamp = it.stamp; mrt_type = it.kind; subtype = it.subkind; size = length it.body }) ≡ Some head = sym u.0 ∙ e in
      let g : length it.body ≡ head.size = cc in omega (arith, u.1));
  allowed = rw e allowed;
  short = omega arith;
}

-- the record that was taken off
pub next_record : (old body : List ℕ) (head : Head) → head_at old ≡ Some head → head.size ≤ limit → 12 + head.size ≤ length old → body ≡ drop 12 (take (12 + head.size) old)
    → Begins IsRecord old (record { stamp = head.stamp; kind = head.mrt_type; subkind = head.subtype; body = body }) (drop (12 + head.size) old)
next_record old body head e allowed long body-is =
    let made = record_made old head e allowed long in
    let body-same : take head.size (drop 12 old) ≡ body = sym (drop-take 12 head.size old) ∙ sym body-is in
    let a = subst (λ (b : List ℕ). Begins IsRecord old (record { stamp = head.stamp; kind = head.mrt_type; subkind = head.subtype; body = b }) (drop head.size (drop 12 old))) body-same made in
    subst (λ (r : List ℕ). Begins IsRecord old (record { stamp = head.stamp; kind = head.mrt_type; subkind = head.subtype; body = body }) r) (drop-drop head.size 12 old) a

-- ---- the records of a stream are determined by it

abbrev head_with : Recorded → Head
head_with it = record { stamp = it.stamp; mrt_type = it.kind; subtype = it.subkind; size = length it.body }

-- no record begins another
pub one_record : (bytes : List ℕ) (a b : Recorded) (rest more : List ℕ) → Begins IsRecord bytes a rest → Begins IsRecord bytes b more → (a ≡ b) × (rest ≡ more)
one_record bytes a b rest more p q =
    let u = record_head bytes a rest p in
    let v = record_head bytes b more q in
    let heads = same_Some (head_with a) (head_with b) (sym u.0 ∙ v.0) in
    let size : length a.body ≡ length b.body = ap (λ (h : Head). h.size) heads in
    let whole : p.spelled.header ++ (a.body ++ rest) ≡ q.spelled.header ++ (b.body ++ more) =
    sym (append_assoc p.spelled.header a.body rest) ∙ ap (λ (xs : List ℕ). xs ++ rest) (sym p.spelled.whole) ∙ sym p.whole ∙ q.whole ∙ ap (λ (xs : List ℕ). xs ++ more) q.spelled.whole ∙ append_assoc q.spelled.header b.body more in
    let behind : a.body ++ rest ≡ b.body ++ more = sym (drop_at p.spelled.header (a.body ++ rest) 12 p.spelled.twelve) ∙ ap (drop 12) whole ∙ drop_at q.spelled.header (b.body ++ more) 12 q.spelled.twelve in
    let body : a.body ≡ b.body = sym (take_at a.body rest (length a.body) refl) ∙ ap (take (length a.body)) behind ∙ take_at b.body more (length a.body) (sym size) in
    let rests : rest ≡ more = sym (drop_at a.body rest (length a.body) refl) ∙ ap (drop (length a.body)) behind ∙ drop_at b.body more (length a.body) (sym size) in
    (record_same a b (ap (λ (h : Head). h.stamp) heads) (ap (λ (h : Head). h.mrt_type) heads) (ap (λ (h : Head). h.subtype) heads) body, rests)
  where
    record_same : (a b : Recorded) → a.stamp ≡ b.stamp → a.kind ≡ b.kind → a.subkind ≡ b.subkind → a.body ≡ b.body → a ≡ b
    record_same a b p q r s = λ i. record { stamp = p i; kind = q i; subkind = r i; body = s i }
