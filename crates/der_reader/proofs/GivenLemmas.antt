-- What the rules give is spelled so.
use Rattle.std.proofs.Common.{◌≡◌, ℕ, zero, suc, ◌+◌, ◌-◌, ◌<◌, ◌≤◌, inl, inr, Bool, true, false, ◌&&◌, ◌||◌, cond, ltb, List, [], ◌∷◌, ◌++◌, length, take, drop, get_or, refl, sym, ap, ◌∙◌, subst, append_assoc, length-take, ◌==◌, arith}
use Rattle.std.proofs.lemmas.Bool.{ltb-true, ltb-false, eqb-true}
use Rattle.std.proofs.lemmas.List.{take-append-drop}
use Rattle.std.specs.declared.result.Result.{Result}
use Rattle.std.specs.declared.result.Result.TheVariants.{Ok, Err}
use Rattle.der_reader.specs.Number.{number}
use Rattle.der_reader.specs.Value.{IsLength, Begins}
use Rattle.der_reader.specs.Fault.{◌>>=◌, long_length_at, length_at, content_at, value_at}
use Rattle.der_reader.specs.declared.fault.DerFault.{DerFault}
use Rattle.der_reader.specs.declared.fault.DerFault.TheVariants.{Truncated, Tag, Length}

pub bind_ok : {A B : Type 0} (r : Result A DerFault) (f : A → Result B DerFault) (y : B) → (r >>= f) ≡ Ok y
    → (x : A) × (r ≡ Ok x) × (f x ≡ Ok y)
bind_ok (Ok x) f y e = (x, refl, e)
bind_ok (Err d) f y e = cc

-- a test that went the way to Ok
pub passed : {A : Type 0} (b : Bool) (d : DerFault) (r : Result A DerFault) (y : A) → cond b (Err d) r ≡ Ok y
    → (b ≡ false) × (r ≡ Ok y)
passed true d r y e = cc
passed false d r y e = (refl, e)

pub chosen : {A : Type 0} (b : Bool) (d : DerFault) (r : Result A DerFault) (y : A) → cond b r (Err d) ≡ Ok y
    → (b ≡ true) × (r ≡ Ok y)
chosen true d r y e = (refl, e)
chosen false d r y e = cc

pub ok_same : {A : Type 0} (x y : A) → ◌≡◌ {A = Result A DerFault} (Ok x) (Ok y) → x ≡ y
ok_same x y e = cc

-- the length's bytes, before what follows
record FoundLength (bytes : List ℕ) (found : ℕ × List ℕ) : Type 0 where
  octets : List ℕ
  length_is : IsLength found.0 octets
  whole : bytes ≡ octets ++ found.1

length_front : {A : Type 0} (n : ℕ) (xs : List A) → n ≤ length xs → length (take n xs) ≡ n
length_front n xs h = rw length-take (omega arith)

long : (count : ℕ) (rest : List ℕ) → count ≤ length rest → count ≤ 4 → 128 ≤ number (take count rest)
    → 0 < get_or (take count rest) 0 0
    → FoundLength ((count + 128) ∷ rest) (number (take count rest), drop count rest)
long count rest whole few big leading =
    let same : length (take count rest) ≡ count = length_front count rest whole in
    record {
      octets = (count + 128) ∷ take count rest;
      length_is = inr (record { big = big; digits = take count rest; few = omega arith; numeral = record { value = refl; leading = leading }; whole = ap (λ n. (n + 128) ∷ take count rest) (sym same) });
      whole = ap (λ (r : List ℕ). (count + 128) ∷ r) (sym (take-append-drop count rest));
    }

not_either : (a b : Bool) → (a || b) ≡ false → (a ≡ false) × (b ≡ false)
not_either true b e = cc
not_either false b e = (refl, e)

not_zero : (n : ℕ) → (n == 0) ≡ false → 0 < n
not_zero zero e = cc
not_zero (suc n) e = omega arith

long_found : (count : ℕ) (rest : List ℕ) (found : ℕ × List ℕ) → count ≤ 4 → long_length_at count rest ≡ Ok found
    → FoundLength ((count + 128) ∷ rest) found
long_found count rest found few e =
    let a = passed (ltb (length rest) count) Truncated _ found e in
    let b = passed ((get_or (take count rest) 0 0 == 0) || ltb (number (take count rest)) 128) Length _ found a.1 in
    let c = not_either (get_or (take count rest) 0 0 == 0) (ltb (number (take count rest)) 128) b.0 in
    subst (FoundLength ((count + 128) ∷ rest)) (ok_same _ found b.1)
    (long count rest (ltb-false _ _ a.0) few (ltb-false _ _ c.1) (not_zero _ c.0))

both : (a b : Bool) → (a && b) ≡ true → (a ≡ true) × (b ≡ true)
both true b e = (refl, e)
both false b e = cc

add_back : (first : ℕ) → 128 < first → first - 128 + 128 ≡ first
add_back first h = omega arith

-- by the three kinds of a length's first byte
by_first : (first : ℕ) (rest : List ℕ) (found : ℕ × List ℕ) → (a : Bool) → ltb first 128 ≡ a → (b : Bool)
    → (ltb 128 first && ltb first 133) ≡ b
    → cond a (Ok (first, rest)) (cond b (long_length_at (first - 128) rest) (Err Length)) ≡ Ok found
    → FoundLength (first ∷ rest) found
by_first first rest found true small b is e =
    subst (FoundLength (first ∷ rest)) (ok_same _ found e) (record { octets = first ∷ []; length_is = inl (ltb-true _ _ small, refl); whole = refl })
by_first first rest found false small true is e =
    let t = both (ltb 128 first) (ltb first 133) is in
    let above = ltb-true _ _ t.0 in
    let below = ltb-true _ _ t.1 in
    subst (λ (n : ℕ). FoundLength (n ∷ rest) found) (add_back first above) (long_found (first - 128) rest found (omega arith) e)
by_first first rest found false small false is e = cc

length_found : (bytes : List ℕ) (found : ℕ × List ℕ) → length_at bytes ≡ Ok found → FoundLength bytes found
length_found [] found e = cc
length_found (first ∷ rest) found e = by_first first rest found (ltb first 128) refl (ltb 128 first && ltb first 133) refl e

-- a value, of which the length was found
begins : (tag first n : ℕ) (rest octets more : List ℕ) → first ≡ tag → rest ≡ octets ++ more → IsLength n octets
    → n ≤ length more → Begins tag (first ∷ rest) (take n more) (drop n more)
begins tag first n rest octets more is whole length_is fits = record {
  front = tag ∷ octets ++ take n more;
  spelled = record { octets = octets; length_is = rw (length_front n more fits) length_is; whole = refl };
  whole = rw (is, whole) (ap (λ (r : List ℕ). tag ∷ r) (ap (λ (r : List ℕ). octets ++ r) (sym (take-append-drop n more)) ∙ sym (append_assoc octets (take n more) (drop n more))));
}

pub value_found : (tag : ℕ) (bytes : List ℕ) (found : List ℕ × List ℕ) → value_at tag bytes ≡ Ok found
    → Begins tag bytes found.0 found.1
value_found tag [] found e = cc
value_found tag (first ∷ rest) found e =
    let at = chosen (first == tag) Tag (length_at rest >>= λ l. content_at l.0 l.1) found e in
    let l = bind_ok (length_at rest) (λ l. content_at l.0 l.1) found at.1 in
    let c = passed (ltb (length l.0.1) l.0.0) Truncated (Ok (take l.0.0 l.0.1, drop l.0.0 l.0.1)) found l.2 in
    let f = length_found rest l.0 l.1 in
    subst (λ (x : List ℕ × List ℕ). Begins tag (first ∷ rest) x.0 x.1) (ok_same _ found c.1)
    (begins tag first l.0.0 rest f.octets l.0.1 (eqb-true _ _ at.0) f.whole f.length_is (ltb-false _ _ c.0))
