-- Any bytes are a payload, or break some rule first.
use Rattle.std.proofs.Common.{◌≡◌, ℕ, zero, suc, ◌+◌, ◌<◌, ◌≤◌, ◌⊎◌, inl, inr, Bool, true, false, eqb, ltb, List, [], ◌∷◌, length, get_or, slice_get, Option, Some, None, refl, ap, ◌∙◌, subst, arith}
use Rattle.std.proofs.lemmas.Option.{same_Some}
use Rattle.std.specs.List.{Contains}
use Rattle.std.specs.List.Sorted.{IsStrictlyIncreasing}
use Rattle.std.proofs.lemmas.Bool.{ltb-true, ltb-false, eqb-true, eqb-false}
use Rattle.std.proofs.lemmas.List.Elements.{Contains-push, Contains-push_cases, Contains-append_left, Contains-append_right, Contains-append_cases}
use Rattle.der_reader.specs.Value.{Begins, BeginsNone}
use Rattle.der_reader.specs.Integer.{TakesInteger, TakesNone}
use Rattle.der_reader.proofs.FrontLemmas.{one_front, one_integer_front, begins_shorter}
use Rattle.der_reader.proofs.DecideLemmas.{value_or_none, integer_or_none}
use Rattle.path_model.specs.Union.{Attestation}
use Rattle.aspa_payload.specs.Payload.{IsPayload, IsUnfit}
use Rattle.aspa_payload.specs.Content.{TakesVersion, AreIntegers, IsContent, Says}
use Rattle.aspa_payload.specs.Reading.{TakesPayload, IsContentRefused, IsRefused, IsWhole}
use Rattle.aspa_payload.specs.declared.content.Parts.{Parts}
use Rattle.aspa_payload.specs.declared.fault.PayloadFault.{PayloadFault}
use Rattle.aspa_payload.specs.declared.fault.PayloadFault.TheVariants.{NotDer, Version, NoProviders, Order, SelfProvider, Base64, Moment, NoMemory}
use Rattle.aspa_payload.proofs.ReadingLemmas.{refused_outer}
use Rattle.aspa_payload.proofs.ContentLemmas.{no_explicit, no_inner, no_number, not_alone, no_customer, no_list, no_end, no_providers}

pub empty_or_not : (xs : List ℕ) → (xs ≡ []) ⊎ (xs ≡ [] → ⊥)
empty_or_not [] = inl refl
empty_or_not (x ∷ xs) = inr (λ e. let zero : suc (length xs) ≡ 0 = ap (λ (ys : List ℕ). length ys) e in omega arith)

-- ---- the version

abbrev SomeVersion : List ℕ → Type 0
SomeVersion content = ((y : Option ℕ × List ℕ) × TakesVersion content y.0 y.1) ⊎ ((y : Option ℕ × List ℕ) → TakesVersion content y.0 y.1 → ⊥)

version_end : (content inner rest : List ℕ) (n : ℕ) (after : List ℕ) → slice_get content 0 ≡ Some 160
    → Begins 160 content inner rest → TakesInteger inner n after → (after ≡ []) ⊎ (after ≡ [] → ⊥) → SomeVersion content
version_end content inner rest n after first begins number (inl e) =
    inl ((Some n, rest), record { inner = inner; begins = begins; alone = subst (λ (r : List ℕ). TakesInteger inner n r) e number })
version_end content inner rest n after first begins number (inr some) =
    inr (no_explicit content first (not_alone content inner rest after n begins number some))

version_number : (content inner rest : List ℕ) → slice_get content 0 ≡ Some 160 → Begins 160 content inner rest
    → ((t : ℕ × List ℕ) × TakesInteger inner t.0 t.1) ⊎ TakesNone inner → SomeVersion content
version_number content inner rest first begins (inl t) = version_end content inner rest t.0.0 t.0.1 first begins t.1 (empty_or_not t.0.1)
version_number content inner rest first begins (inr none) = inr (no_explicit content first (no_number content inner rest begins none))

version_value : (content : List ℕ) → slice_get content 0 ≡ Some 160
    → ((f : List ℕ × List ℕ) × Begins 160 content f.0 f.1) ⊎ BeginsNone 160 content → SomeVersion content
version_value content first (inl f) = version_number content f.0.0 f.0.1 first f.1 (integer_or_none f.0.0)
version_value content first (inr none) = inr (no_explicit content first (no_inner content none))

none_or_some : (n : ℕ) → ◌≡◌ {A = Option ℕ} None (Some n) → ⊥
none_or_some n e = cc

version_first : (b : ℕ) (bs : List ℕ) (r : Bool) → eqb b 160 ≡ r → SomeVersion (b ∷ bs)
version_first b bs true e = version_value (b ∷ bs) (ap Some (eqb-true b 160 e)) (value_or_none 160 (b ∷ bs))
version_first b bs false e = inl ((None, b ∷ bs), (λ s. eqb-false b 160 e (same_Some b 160 s), refl))

version_or_none : (content : List ℕ) → SomeVersion content
version_or_none [] = inl ((None, []), (none_or_some 160, refl))
version_or_none (b ∷ bs) = version_first b bs (eqb b 160) refl

-- ---- the providers

abbrev SomeIntegers : List ℕ → Type 0
SomeIntegers bytes = ((ns : List ℕ) × AreIntegers bytes ns) ⊎ ((ns : List ℕ) → AreIntegers bytes ns → ⊥)

none_next : (b : ℕ) (bs : List ℕ) → TakesNone (b ∷ bs) → (ns : List ℕ) → AreIntegers (b ∷ bs) ns → ⊥
none_next b bs none [] e = let zero : suc (length bs) ≡ 0 = ap (λ (ys : List ℕ). length ys) e in omega arith
none_next b bs none (n ∷ ns) are = none n are.0 are.1

none_after : (b : ℕ) (bs rest : List ℕ) (n : ℕ) → TakesInteger (b ∷ bs) n rest → ((ns : List ℕ) → AreIntegers rest ns → ⊥)
    → (ns : List ℕ) → AreIntegers (b ∷ bs) ns → ⊥
none_after b bs rest n taken none [] e = let zero : suc (length bs) ≡ 0 = ap (λ (ys : List ℕ). length ys) e in omega arith
none_after b bs rest n taken none (m ∷ ns) are =
    none ns (subst (λ (r : List ℕ). AreIntegers r ns) (one_integer_front (b ∷ bs) m n are.0 rest are.1 taken).1 are.2)

integers_next : (b : ℕ) (bs rest : List ℕ) (n : ℕ) → TakesInteger (b ∷ bs) n rest → SomeIntegers rest → SomeIntegers (b ∷ bs)
integers_next b bs rest n taken (inl more) = inl (n ∷ more.0, (rest, taken, more.1))
integers_next b bs rest n taken (inr none) = inr (none_after b bs rest n taken none)

integers_first : (k : ℕ) (b : ℕ) (bs : List ℕ) → length bs ≤ k → ((rest : List ℕ) → length rest ≤ k → SomeIntegers rest)
    → ((t : ℕ × List ℕ) × TakesInteger (b ∷ bs) t.0 t.1) ⊎ TakesNone (b ∷ bs) → SomeIntegers (b ∷ bs)
integers_first k b bs h more (inl t) =
    let shorter : length t.0.1 < suc (length bs) = begins_shorter 2 (b ∷ bs) t.1.content t.0.1 t.1.begins in
    integers_next b bs t.0.1 t.0.0 t.1 (more t.0.1 (omega arith))
integers_first k b bs h more (inr none) = inr (none_next b bs none)

integers_within : (k : ℕ) (bytes : List ℕ) → length bytes ≤ k → SomeIntegers bytes
integers_within k [] h = inl ([], refl)
integers_within zero (b ∷ bs) h = absurd (omega arith)
integers_within (suc k) (b ∷ bs) h = integers_first k b bs (omega arith) (integers_within k) (integer_or_none (b ∷ bs))

integers_or_none : (bytes : List ℕ) → SomeIntegers bytes
integers_or_none bytes = integers_within (length bytes) bytes (omega arith)

-- ---- the content

abbrev SomeParts : List ℕ → Type 0
SomeParts content = ((parts : Parts) × IsContent content parts) ⊎ ((parts : Parts) → IsContent content parts → ⊥)

module _ (content : List ℕ) where
  parts_providers : (y : Option ℕ × List ℕ) (version : TakesVersion content y.0 y.1) (t : ℕ × List ℕ) (customer : TakesInteger y.1 t.0 t.1)
      (list after : List ℕ) (begins : Begins 48 t.1 list after)
      → after ≡ [] → SomeIntegers list → SomeParts content
  parts_providers y version t customer list after begins e (inl ns) = inl (
    record { version = y.0; customer = t.0; providers = ns.0 },
    record {
      after_version = y.1;
      version = version;
      after_customer = t.1;
      customer = customer;
      list = list;
      last = subst (λ (r : List ℕ). Begins 48 t.1 list r) e begins;
      providers = ns.1;
    },
  )
  parts_providers y version t customer list after begins e (inr none) = inr (no_providers content y.1 y.0 version t.1 t.0 customer list after begins none)

  parts_end : (y : Option ℕ × List ℕ) (version : TakesVersion content y.0 y.1) (t : ℕ × List ℕ) (customer : TakesInteger y.1 t.0 t.1)
      (list after : List ℕ) (begins : Begins 48 t.1 list after)
      → (after ≡ []) ⊎ (after ≡ [] → ⊥) → SomeParts content
  parts_end y version t customer list after begins (inl e) = parts_providers y version t customer list after begins e (integers_or_none list)
  parts_end y version t customer list after begins (inr some) = inr (no_end content y.1 y.0 version t.1 t.0 customer list after begins some)

  parts_list : (y : Option ℕ × List ℕ) (version : TakesVersion content y.0 y.1) (t : ℕ × List ℕ) (customer : TakesInteger y.1 t.0 t.1)
      → ((f : List ℕ × List ℕ) × Begins 48 t.1 f.0 f.1) ⊎ BeginsNone 48 t.1 → SomeParts content
  parts_list y version t customer (inl f) = parts_end y version t customer f.0.0 f.0.1 f.1 (empty_or_not f.0.1)
  parts_list y version t customer (inr none) = inr (no_list content y.1 y.0 version t.1 t.0 customer none)

  parts_customer : (y : Option ℕ × List ℕ) (version : TakesVersion content y.0 y.1)
      → ((t : ℕ × List ℕ) × TakesInteger y.1 t.0 t.1) ⊎ TakesNone y.1 → SomeParts content
  parts_customer y version (inl t) = parts_list y version t.0 t.1 (value_or_none 48 t.0.1)
  parts_customer y version (inr none) = inr (no_customer content y.1 y.0 version none)

  parts_version : SomeVersion content → SomeParts content
  parts_version (inl v) = parts_customer v.0 v.1 (integer_or_none v.0.1)
  parts_version (inr none) = inr (λ parts s. none (parts.version, s.after_version) s.version)

parts_or_none : (content : List ℕ) → SomeParts content
parts_or_none content = parts_version content (version_or_none content)

-- ---- the rules

contains_cons : (x y : ℕ) (xs : List ℕ) → Contains (x ∷ xs) y → (x ≡ y) ⊎ Contains xs y
contains_cons x y xs h = elim (Contains-append_cases (x ∷ []) xs y h) [ inl one ↦ elim (Contains-push_cases [] x y one) [ inl none ↦ absurd (omega (arith, none.1)) | inr e ↦ inl e ] | inr more ↦ inr more ]

contains_by : (x y : ℕ) (xs : List ℕ) (r : Bool) → eqb x y ≡ r → Contains xs y ⊎ (Contains xs y → ⊥)
    → Contains (x ∷ xs) y ⊎ (Contains (x ∷ xs) y → ⊥)
contains_by x y xs true e more = inl (subst (λ (z : ℕ). Contains (x ∷ xs) z) (eqb-true x y e) (Contains-append_left (x ∷ []) xs x (Contains-push [] x)))
contains_by x y xs false e (inl more) = inl (Contains-append_right (x ∷ []) xs y more)
contains_by x y xs false e (inr none) = inr (λ h. elim (contains_cons x y xs h) [ inl same ↦ eqb-false x y e same | inr more ↦ none more ])

contains_or_not : (xs : List ℕ) (y : ℕ) → Contains xs y ⊎ (Contains xs y → ⊥)
contains_or_not [] y = inr (λ h. omega (arith, h.1))
contains_or_not (x ∷ xs) y = contains_by x y xs (eqb x y) refl (contains_or_not xs y)

rises_on : (x y : ℕ) (ys : List ℕ) → x < y → IsStrictlyIncreasing (y ∷ ys) → IsStrictlyIncreasing (x ∷ y ∷ ys)
rises_on x y ys h more zero l = h
rises_on x y ys h more (suc k) l = let next : suc k + 1 ≡ suc (k + 1) = omega arith in rw next (more k (omega arith))

falls_on : (x y : ℕ) (ys : List ℕ) → IsStrictlyIncreasing (x ∷ y ∷ ys) → IsStrictlyIncreasing (y ∷ ys)
falls_on x y ys h k l =
    let next : suc k + 1 ≡ suc (k + 1) = omega arith in
    subst (λ (j : ℕ). get_or (y ∷ ys) k 0 < get_or (x ∷ y ∷ ys) j 0) next (h (suc k) (omega arith))

rises_by : (x y : ℕ) (ys : List ℕ) (r : Bool) → ltb x y ≡ r
    → IsStrictlyIncreasing (y ∷ ys) ⊎ (IsStrictlyIncreasing (y ∷ ys) → ⊥)
    → IsStrictlyIncreasing (x ∷ y ∷ ys) ⊎ (IsStrictlyIncreasing (x ∷ y ∷ ys) → ⊥)
rises_by x y ys true e (inl more) = inl (rises_on x y ys (ltb-true x y e) more)
rises_by x y ys true e (inr none) = inr (λ h. none (falls_on x y ys h))
rises_by x y ys false e more = inr (λ h. let below : x < y = h 0 (omega arith) in let not = ltb-false x y e in omega arith)

rises_or_not : (xs : List ℕ) → IsStrictlyIncreasing xs ⊎ (IsStrictlyIncreasing xs → ⊥)
rises_or_not [] = inl (λ k l. absurd (omega arith))
rises_or_not (x ∷ []) = inl (λ k l. absurd (omega arith))
rises_or_not (x ∷ y ∷ ys) = rises_by x y ys (ltb x y) refl (rises_or_not (y ∷ ys))

fit_self : (a : Attestation) → (a.providers ≡ [] → ⊥) → IsStrictlyIncreasing a.providers
    → Contains a.providers a.customer ⊎ (Contains a.providers a.customer → ⊥)
    → IsPayload a ⊎ ((f : PayloadFault) × IsUnfit a f)
fit_self a some rises (inl self) = inr (SelfProvider, (some, rises, self))
fit_self a some rises (inr other) = inl (record { some = some; ascending = rises; no_self = other })

fit_order : (a : Attestation) → (a.providers ≡ [] → ⊥)
    → IsStrictlyIncreasing a.providers ⊎ (IsStrictlyIncreasing a.providers → ⊥)
    → IsPayload a ⊎ ((f : PayloadFault) × IsUnfit a f)
fit_order a some (inl rises) = fit_self a some rises (contains_or_not a.providers a.customer)
fit_order a some (inr falls) = inr (Order, (some, falls))

fit_some : (a : Attestation) → (a.providers ≡ []) ⊎ (a.providers ≡ [] → ⊥) → IsPayload a ⊎ ((f : PayloadFault) × IsUnfit a f)
fit_some a (inl none) = inr (NoProviders, none)
fit_some a (inr some) = fit_order a some (rises_or_not a.providers)

fit_or_not : (a : Attestation) → IsPayload a ⊎ ((f : PayloadFault) × IsUnfit a f)
fit_or_not a = fit_some a (empty_or_not a.providers)

-- ---- what a content says, or the first rule that it breaks

abbrev SomeReading : List ℕ → Type 0
SomeReading content = ((a : Attestation) × Says content a × IsPayload a) ⊎ ((f : PayloadFault) × IsContentRefused content f)

unfit_refused : (content : List ℕ) (a : Attestation) (f : PayloadFault) → Says content a → IsUnfit a f
    → IsContentRefused content f
unfit_refused content a NotDer says h = absurd h
unfit_refused content a Version says h = absurd h
unfit_refused content a Base64 says h = absurd h
unfit_refused content a Moment says h = absurd h
unfit_refused content a NoMemory says h = absurd h
unfit_refused content a NoProviders says h = (a, says, h)
unfit_refused content a Order says h = (a, says, h)
unfit_refused content a SelfProvider says h = (a, says, h)

reading_fit : (content : List ℕ) (a : Attestation) → Says content a → IsPayload a ⊎ ((f : PayloadFault) × IsUnfit a f)
    → SomeReading content
reading_fit content a says (inl fit) = inl (a, says, fit)
reading_fit content a says (inr unfit) = inr (unfit.0, unfit_refused content a unfit.0 says unfit.1)

reading_version : (content : List ℕ) (v : Option ℕ) (customer : ℕ) (providers : List ℕ)
    → IsContent content (record { version = v; customer = customer; providers = providers })
    → (v ≡ Some 1) ⊎ (v ≡ Some 1 → ⊥) → SomeReading content
reading_version content v customer providers h (inl e) =
    reading_fit content (record { customer = customer; providers = providers })
    (subst (λ (w : Option ℕ). IsContent content (record { version = w; customer = customer; providers = providers })) e h)
    (fit_or_not (record { customer = customer; providers = providers }))
reading_version content v customer providers h (inr other) = inr (Version, (record { version = v; customer = customer; providers = providers }, h, other))

one_by : (n : ℕ) (r : Bool) → eqb n 1 ≡ r
    → (◌≡◌ {A = Option ℕ} (Some n) (Some 1)) ⊎ (◌≡◌ {A = Option ℕ} (Some n) (Some 1) → ⊥)
one_by n true e = inl (ap Some (eqb-true n 1 e))
one_by n false e = inr (λ s. eqb-false n 1 e (same_Some n 1 s))

one_or_not : (v : Option ℕ) → (v ≡ Some 1) ⊎ (v ≡ Some 1 → ⊥)
one_or_not None = inr (none_or_some 1)
one_or_not (Some n) = one_by n (eqb n 1) refl

reading_parts : (content : List ℕ) → SomeParts content → SomeReading content
reading_parts content (inl p) = reading_version content p.0.version p.0.customer p.0.providers p.1 (one_or_not p.0.version)
reading_parts content (inr none) = inr (NotDer, none)

content_reading : (content : List ℕ) → SomeReading content
content_reading content = reading_parts content (parts_or_none content)

-- ---- bytes

abbrev pub SomeUnit : List ℕ → Type 0
SomeUnit bytes = ((t : Attestation × List ℕ) × TakesPayload bytes t.0 t.1) ⊎ ((f : PayloadFault) × IsRefused (Begins 48 bytes) f)

unit_content : (bytes content rest : List ℕ) → Begins 48 bytes content rest → SomeReading content → SomeUnit bytes
unit_content bytes content rest begins (inl r) = inl ((r.0, rest), record { content = content; begins = begins; says = r.1; fit = r.2 })
unit_content bytes content rest begins (inr r) =
    inr (r.0, refused_outer (Begins 48 bytes) (λ c d x y s t. (one_front 48 bytes c d x y s t).0) content rest begins r.0 r.1)

unit_value : (bytes : List ℕ) → ((f : List ℕ × List ℕ) × Begins 48 bytes f.0 f.1) ⊎ BeginsNone 48 bytes → SomeUnit bytes
unit_value bytes (inl f) = unit_content bytes f.0.0 f.0.1 f.1 (content_reading f.0.0)
unit_value bytes (inr none) = inr (NotDer, λ content rest begins parts s. none content rest begins)

-- the payload at the front, or the first rule that is broken there
pub some_unit : (bytes : List ℕ) → SomeUnit bytes
some_unit bytes = unit_value bytes (value_or_none 48 bytes)

abbrev pub SomeWhole : List ℕ → Type 0
SomeWhole bytes = ((a : Attestation) × TakesPayload bytes a []) ⊎ ((f : PayloadFault) × IsRefused (IsWhole bytes) f)

whole_content : (bytes content rest : List ℕ) → Begins 48 bytes content rest → rest ≡ [] → SomeReading content
    → SomeWhole bytes
whole_content bytes content rest begins e (inl r) =
    inl (r.0, record { content = content; begins = subst (λ (x : List ℕ). Begins 48 bytes content x) e begins; says = r.1; fit = r.2 })
whole_content bytes content rest begins e (inr r) =
    inr (r.0, refused_outer (IsWhole bytes) (λ c d x y s t. (one_front 48 bytes c d x y s.0 t.0).0) content rest (begins, e) r.0 r.1)

whole_end : (bytes content rest : List ℕ) → Begins 48 bytes content rest → (rest ≡ []) ⊎ (rest ≡ [] → ⊥) → SomeWhole bytes
whole_end bytes content rest begins (inl e) = whole_content bytes content rest begins e (content_reading content)
whole_end bytes content rest begins (inr some) =
    inr (NotDer, λ c x o parts s. some ((one_front 48 bytes content c rest x begins o.0).1 ∙ o.1))

whole_value : (bytes : List ℕ) → ((f : List ℕ × List ℕ) × Begins 48 bytes f.0 f.1) ⊎ BeginsNone 48 bytes → SomeWhole bytes
whole_value bytes (inl f) = whole_end bytes f.0.0 f.0.1 f.1 (empty_or_not f.0.1)
whole_value bytes (inr none) = inr (NotDer, λ content rest o parts s. none content rest o.0)

-- exactly one payload, or the first rule that is broken
pub some_whole : (bytes : List ℕ) → SomeWhole bytes
some_whole bytes = whole_value bytes (value_or_none 48 bytes)
