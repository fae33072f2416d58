-- Whole messages at the front of a stream.
use Rattle.std.proofs.Common.{◌≡◌, inl, inr, ◌⊎◌, ℕ, ◌+◌, ◌<◌, ◌≤◌, Bool, true, false, List, [], ◌∷◌, ◌++◌, length, take, drop, Some, None, Ok, Err, refl, sym, ap, subst, ◌∙◌, append_assoc, arith}
use Rattle.std.specs.Prelude.{nat_lt}
use Rattle.std.specs.declared.option.Option.{Option}
use Rattle.std.specs.declared.result.Result.{Result}
use Rattle.std.specs.Int.{w32, from_be_bytes}
use Rattle.std.proofs.lemmas.Option.{some_pair_parts}
use Rattle.std.proofs.lemmas.List.{take-append-drop, take_at, drop_at, length-take, length-append, drop-drop, drop-take}
use Rattle.std.proofs.lemmas.Bool.Decides.{nat_tests}
use Rattle.held_bytes.specs.Units.{Begins}
use Rattle.bmp_reader.specs.declared.fault.BmpFrameFault.{BmpFrameFault}
use Rattle.bmp_reader.specs.declared.fault.BmpFrameFault.TheVariants as faults
use Rattle.bmp_reader.specs.declared.heading.Heading.{Heading}
use Rattle.bmp_reader.specs.Coming.{IsOtherVersion, IsBadLength, IsPartial}
use Rattle.bgp_attrs.specs.Fixed.{SpellsFour}
use Rattle.bmp_reader.specs.Headed.{head_at, IsSized, IsHeaded}
use Rattle.bmp_reader.specs.Messages.{Sent, IsMessage, limit}

-- ---- headers

-- a length and a type behind the version, and what follows them
record IsHead (behind : List ℕ) (count kind : ℕ) : Type 0 where
  size : List ℕ
  rest : List ℕ
  counts : SpellsFour size count
  whole : behind ≡ size ++ (kind ∷ rest)

head_found : (behind : List ℕ) (count kind : ℕ) → head_at behind ≡ Some (count, kind) → IsHead behind count kind
head_found [] count kind e = absurd cc
head_found (a ∷ []) count kind e = absurd cc
head_found (a ∷ b ∷ []) count kind e = absurd cc
head_found (a ∷ b ∷ c ∷ []) count kind e = absurd cc
head_found (a ∷ b ∷ c ∷ d ∷ []) count kind e = absurd cc
head_found (a ∷ b ∷ c ∷ d ∷ k ∷ rest) count kind e =
    let p = some_pair_parts (from_be_bytes w32 (a ∷ b ∷ c ∷ d ∷ [])) count k kind e in
    record { size = a ∷ b ∷ c ∷ d ∷ []; rest = rest; counts = (refl, p.0); whole = ap (λ (n : ℕ). a ∷ (b ∷ (c ∷ (d ∷ (n ∷ rest))))) p.1 }

head_here : (size rest : List ℕ) (count kind : ℕ) → SpellsFour size count → head_at (size ++ (kind ∷ rest)) ≡ Some (count, kind)
head_here [] rest count kind h = absurd (omega (arith, h.0))
head_here (a ∷ []) rest count kind h = absurd (omega (arith, h.0))
head_here (a ∷ b ∷ []) rest count kind h = absurd (omega (arith, h.0))
head_here (a ∷ b ∷ c ∷ []) rest count kind h = absurd (omega (arith, h.0))
head_here (a ∷ b ∷ c ∷ d ∷ []) rest count kind h = ap (λ (n : ℕ). Some (n, kind)) h.1
head_here (a ∷ b ∷ c ∷ d ∷ x ∷ more) rest count kind h = absurd (omega (arith, h.0))

head_short : (behind : List ℕ) → head_at behind ≡ None → length behind < 5
head_short [] e = omega arith
head_short (a ∷ []) e = omega arith
head_short (a ∷ b ∷ []) e = omega arith
head_short (a ∷ b ∷ c ∷ []) e = omega arith
head_short (a ∷ b ∷ c ∷ d ∷ []) e = omega arith
head_short (a ∷ b ∷ c ∷ d ∷ k ∷ rest) e = absurd cc

-- the bytes behind a header
behind_head : (size : List ℕ) (kind : ℕ) (rest : List ℕ) → length size ≡ 4 → drop 6 (3 ∷ (size ++ (kind ∷ rest))) ≡ rest
behind_head size kind rest four =
    ap (λ (xs : List ℕ). drop 6 (3 ∷ xs)) (sym (append_assoc size (kind ∷ []) rest)) ∙ drop_at (3 ∷ (size ++ (kind ∷ []))) rest 6 (omega (arith, length-append size (kind ∷ [])))

-- ---- whole messages

-- what stands in a message at the front
pub record InFront (bytes : List ℕ) (it : Sent) (rest : List ℕ) : Type 0 where
  pub behind : List ℕ
  pub version : bytes ≡ 3 ∷ behind
  pub says : head_at behind ≡ Some (6 + length it.body, it.kind)
  pub long : length bytes ≡ 6 + length it.body + length rest
  pub follows : drop 6 bytes ≡ it.body ++ rest

pub in_front : (bytes : List ℕ) (it : Sent) (rest : List ℕ) → Begins IsMessage bytes it rest → InFront bytes it rest
in_front bytes it rest b =
    let s = b.spelled in
    let behind : List ℕ = s.size ++ (it.kind ∷ (it.body ++ rest)) in
    let bytes-is : bytes ≡ 3 ∷ behind = b.whole ∙ ap (λ (xs : List ℕ). xs ++ rest) s.whole ∙ ap (λ (xs : List ℕ). 3 ∷ xs) (append_assoc s.size (it.kind ∷ it.body) rest) in
    record {
      behind = behind;
      version = bytes-is;
      says = head_here s.size (it.body ++ rest) (6 + length it.body) it.kind s.counts;
      long = omega (arith, s.counts.0, ap length bytes-is, length-append s.size (it.kind ∷ (it.body ++ rest)), length-append it.body rest);
      follows = ap (drop 6) bytes-is ∙ behind_head s.size it.kind (it.body ++ rest) s.counts.0;
    }

-- the first message, where it is whole
pub message_made : (bytes behind : List ℕ) (size kind : ℕ) → bytes ≡ 3 ∷ behind → head_at behind ≡ Some (6 + size, kind) → 6 + size ≤ limit → 6 + size ≤ length bytes
    → Begins IsMessage bytes (record { kind = kind; body = take size (drop 6 bytes) }) (drop size (drop 6 bytes))
message_made bytes behind size kind version e allowed long =
    let h = head_found behind (6 + size) kind e in
    let body = take size (drop 6 bytes) in
    let bytes-is : bytes ≡ 3 ∷ (h.size ++ (kind ∷ h.rest)) = version ∙ ap (λ (xs : List ℕ). 3 ∷ xs) h.whole in
    let rest-is : drop 6 bytes ≡ h.rest = ap (drop 6) bytes-is ∙ behind_head h.size kind h.rest h.counts.0 in
    let enough : size ≤ length (drop 6 bytes) = omega (arith, h.counts.0, ap length bytes-is, length-append h.size (kind ∷ h.rest), ap length rest-is) in
    let sized : length body ≡ size = omega (arith, length-take size (drop 6 bytes)) in
    let parts : h.rest ≡ body ++ drop size (drop 6 bytes) = sym rest-is ∙ sym (take-append-drop size (drop 6 bytes)) in
    record {
      front = 3 ∷ (h.size ++ (kind ∷ body));
      spelled = record { size = h.size; counts = (h.counts.0, h.counts.1 ∙ ap (λ (n : ℕ). 6 + n) (sym sized)); allowed = omega arith; whole = refl };
      whole = bytes-is ∙ ap (λ (xs : List ℕ). 3 ∷ (h.size ++ (kind ∷ xs))) parts ∙ ap (λ (xs : List ℕ). 3 ∷ xs) (sym (append_assoc h.size (kind ∷ body) (drop size (drop 6 bytes))));
    }

-- the version in front
version_same : (m n : ℕ) (behind rest : List ℕ) → m ∷ behind ≡ n ∷ rest → (m ≡ n) × (behind ≡ rest)
version_same m n behind rest e = (cc, cc)

-- no message begins another
pub one_message : (bytes : List ℕ) (a b : Sent) (rest more : List ℕ) → Begins IsMessage bytes a rest → Begins IsMessage bytes b more → (a ≡ b) × (rest ≡ more)
one_message bytes a b rest more p q =
    let u = in_front bytes a rest p in
    let v = in_front bytes b more q in
    let behind = (version_same 3 3 u.behind v.behind (sym u.version ∙ v.version)).1 in
    let heads = some_pair_parts (6 + length a.body) (6 + length b.body) a.kind b.kind (sym u.says ∙ ap head_at behind ∙ v.says) in
    let size : length a.body ≡ length b.body = (let counts = heads.0 in omega arith) in
    let follows : a.body ++ rest ≡ b.body ++ more = sym u.follows ∙ v.follows in
    let body : a.body ≡ b.body = sym (take_at a.body rest (length a.body) refl) ∙ ap (take (length a.body)) follows ∙ take_at b.body more (length a.body) (sym size) in
    let rests : rest ≡ more = sym (drop_at a.body rest (length a.body) refl) ∙ ap (drop (length a.body)) follows ∙ drop_at b.body more (length a.body) (sym size) in
    (λ i. record { kind = heads.1 i; body = body i }, rests)

-- ---- the others

pub bad_made : (bytes behind : List ℕ) (count kind : ℕ) → bytes ≡ 3 ∷ behind → head_at behind ≡ Some (count, kind) → (count < 6) ⊎ (limit < count) → IsBadLength bytes
bad_made bytes behind count kind version e beyond =
    let h = head_found behind count kind e in
    record { size = h.size; kind = kind; rest = h.rest; count = count; counts = h.counts; beyond = beyond; whole = version ∙ ap (λ (xs : List ℕ). 3 ∷ xs) h.whole }

-- what stands behind the version of a bad length
bad_head : (bytes behind : List ℕ) (bad : IsBadLength bytes) → bytes ≡ 3 ∷ behind → head_at behind ≡ Some (bad.count, bad.kind)
bad_head bytes behind bad version =
    ap head_at (version_same 3 3 behind (bad.size ++ (bad.kind ∷ bad.rest)) (sym version ∙ bad.whole)).1 ∙ head_here bad.size bad.rest bad.count bad.kind bad.counts

in_range : (count : ℕ) → (count < 6) ⊎ (limit < count) → 6 ≤ count → count ≤ limit → ⊥
in_range count (inl below) least most = omega arith
in_range count (inr over) least most = omega arith

-- a header that says this has a length that is allowed
pub not_bad_by : (bytes behind : List ℕ) (count kind : ℕ) → bytes ≡ 3 ∷ behind → head_at behind ≡ Some (count, kind) → 6 ≤ count → count ≤ limit → IsBadLength bytes → ⊥
not_bad_by bytes behind count kind version e least most bad =
    let same = some_pair_parts bad.count count bad.kind kind (sym (bad_head bytes behind bad version) ∙ e) in
    in_range count (subst (λ (n : ℕ). (n < 6) ⊎ (limit < n)) same.0 bad.beyond) least most

pub not_other_by : (bytes behind : List ℕ) → bytes ≡ 3 ∷ behind → IsOtherVersion bytes → ⊥
not_other_by bytes behind version other = other.other (sym (version_same 3 other.version behind other.rest (sym version ∙ other.whole)).0)

pub not_bad : (bytes : List ℕ) (it : Sent) (rest : List ℕ) → Begins IsMessage bytes it rest → IsBadLength bytes → ⊥
not_bad bytes it rest b bad =
    let u = in_front bytes it rest b in
    not_bad_by bytes u.behind (6 + length it.body) it.kind u.version u.says (omega arith) b.spelled.allowed bad

pub not_other : (bytes : List ℕ) (it : Sent) (rest : List ℕ) → Begins IsMessage bytes it rest → IsOtherVersion bytes → ⊥
not_other bytes it rest b other = let u = in_front bytes it rest b in not_other_by bytes u.behind u.version other

pub partial_empty : IsPartial []
partial_empty = record {
  no_message = λ it rest b. (let u = in_front [] it rest b in omega (arith, u.long));
  no_other = λ other. (let e = other.whole in cc);
  no_bad = λ bad. (let e = bad.whole in cc);
  short = omega arith;
}

pub partial_short : (bytes behind : List ℕ) → bytes ≡ 3 ∷ behind → head_at behind ≡ None → IsPartial bytes
partial_short bytes behind version none = record {
  no_message = λ it rest b. (let u = in_front bytes it rest b in
      let both : Some (6 + length it.body, it.kind) ≡ None = sym u.says ∙ ap head_at (version_same 3 3 u.behind behind (sym u.version ∙ version)).1 ∙ none in cc);
  no_other = not_other_by bytes behind version;
  no_bad = λ bad. (let both : Some (bad.count, bad.kind) ≡ None = sym (bad_head bytes behind bad version) ∙ none in cc);
  short = omega (arith, ap length version, head_short behind none);
}

pub partial_cut : (bytes behind : List ℕ) (count kind : ℕ) → bytes ≡ 3 ∷ behind → head_at behind ≡ Some (count, kind) → 6 ≤ count → count ≤ limit → length bytes < count → IsPartial bytes
partial_cut bytes behind count kind version e least most cut = record {
  no_message = λ it rest b. (let u = in_front bytes it rest b in
      let same = some_pair_parts (6 + length it.body) count it.kind kind (sym u.says ∙ ap head_at (version_same 3 3 u.behind behind (sym u.version ∙ version)).1 ∙ e) in
      omega (arith, u.long, same.0));
  no_other = not_other_by bytes behind version;
  no_bad = not_bad_by bytes behind count kind version e least most;
  short = omega arith;
}

-- ---- what the header says

out_of_range : (count : ℕ) → (6 ≤ count → count ≤ limit → ⊥) → (count < 6) ⊎ (limit < count)
out_of_range count apart = by_least (nat_lt count 6) refl
  where
    by_most : 6 ≤ count → (over : Bool) → nat_lt limit count ≡ over → (count < 6) ⊎ (limit < count)
    by_most least true t = inr (grind (arith, nat_tests))
    by_most least false t = absurd (apart least (grind (arith, nat_tests)))

    by_least : (below : Bool) → nat_lt count 6 ≡ below → (count < 6) ⊎ (limit < count)
    by_least true t = inl (grind (arith, nat_tests))
    by_least false t = by_most (grind (arith, nat_tests)) (nat_lt limit count) refl

pub headed_by : (bytes behind : List ℕ) (count kind : ℕ) (result : Result (Option Heading) BmpFrameFault) → bytes ≡ 3 ∷ behind → head_at behind ≡ Some (count, kind) → IsSized (length bytes) count kind result → IsHeaded bytes result
headed_by bytes behind count kind (Ok None) version e s = partial_cut bytes behind count kind version e s.0 s.1 s.2
headed_by bytes behind count kind (Ok (Some head)) version e s =
    let sum = s.0 in
    let most = s.2 in
    let there = s.3 in
    record { behind = behind; whole = version; says = e ∙ (λ i. Some (s.0 i, s.1 i)); allowed = omega arith; long = omega arith }
headed_by bytes behind count kind (Err faults.BmpVersion) version e s = absurd s
headed_by bytes behind count kind (Err faults.BmpLength) version e s = bad_made bytes behind count kind version e (out_of_range count s)
headed_by bytes behind count kind (Err faults.CutShort) version e s = absurd s

-- ---- what the framer takes off

-- the message that was taken off
pub next_message : (old behind body : List ℕ) (size kind : ℕ) → old ≡ 3 ∷ behind → head_at behind ≡ Some (6 + size, kind) → 6 + size ≤ limit → 6 + size ≤ length old → body ≡ drop 6 (take (6 + size) old)
    → Begins IsMessage old (record { kind = kind; body = body }) (drop (6 + size) old)
next_message old behind body size kind version e allowed long body-is =
    let made = message_made old behind size kind version e allowed long in
    let body-same : take size (drop 6 old) ≡ body = sym (drop-take 6 size old) ∙ sym body-is in
    let a = subst (λ (b : List ℕ). Begins IsMessage old (record { kind = kind; body = b }) (drop size (drop 6 old))) body-same made in
    subst (λ (r : List ℕ). Begins IsMessage old (record { kind = kind; body = body }) r) (drop-drop size 6 old) a
