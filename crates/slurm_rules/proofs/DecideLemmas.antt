-- Any tree has a form, or none.
use Rattle.std.proofs.Common.{◌≡◌, ℕ, ◌⊎◌, inl, inr, Bool, true, false, ◌||◌, eqb, List, [], ◌∷◌, Option, Some, is_some, codes, refl, ap, ◌∙◌}
use Rattle.std.proofs.lemmas.Bool.{eqb-true, eqb-false}
use Rattle.serde_json.specs.Data.{Num, unsigned, negative, float, Data}
use Rattle.any_prefix.proofs.DecideLemmas.{SomeOrNone}
use Rattle.json_fields.specs.Object.{number_at, number_if_there, text_if_there, may_have_text, has_only, are_arrays}
use Rattle.json_fields.specs.Object.{IsNumber, ArrayIs, MemberIs}
use Rattle.json_fields.proofs.FoundLemmas.{clash, found_or_none, there_or_none, number_or_none, array_or_none, member_or_none, not_negative, not_float}
use Rattle.slurm_rules.specs.Form.{IsFilter, IsAssertion, IsPrefixAssertion, IsPrefixFilter, HasArrays, IsFilterPart, IsAssertionPart, IsFile}
use Rattle.slurm_rules.specs.Reading.{HasVersion}
use Rattle.slurm_rules.specs.declared.draft.Version.{Version}
use Rattle.slurm_rules.specs.declared.draft.Version.TheVariants.{One, Two}
use Rattle.json_fields.proofs.FoundLemmas.{same_some, unsigned_injective}

filter_by : (d : Data) (p q : Bool) → has_only (codes "comment" ∷ codes "customerAsn" ∷ []) d ≡ p
    → may_have_text (codes "comment") d ≡ q → SomeOrNone (λ n. number_at (codes "customerAsn") d ≡ Some n)
    → SomeOrNone (IsFilter d)
filter_by d false q e f n = inr (λ a h. clash _ h.only e)
filter_by d true false e f n = inr (λ a h. clash _ h.comment f)
filter_by d true true e f (inl n) = inl (n.0, record { only = e; names = n.1; comment = f })
filter_by d true true e f (inr none) = inr (λ a h. none a h.names)

filter_or_none : (d : Data) → SomeOrNone (IsFilter d)
filter_or_none d = filter_by d (has_only (codes "comment" ∷ codes "customerAsn" ∷ []) d) (may_have_text (codes "comment") d) refl refl (found_or_none (number_at (codes "customerAsn") d))

-- the array of providers of an assertion
assertion_by : (d : Data) (p q : Bool) → has_only (codes "comment" ∷ codes "customerAsn" ∷ codes "providerAsns" ∷ []) d ≡ p
    → may_have_text (codes "comment") d ≡ q
    → SomeOrNone (λ n. number_at (codes "customerAsn") d ≡ Some n) → SomeOrNone (ArrayIs IsNumber (codes "providerAsns") d)
    → SomeOrNone (IsAssertion d)
assertion_by d false q e f n ns = inr (λ a h. clash _ h.only e)
assertion_by d true false e f n ns = inr (λ a h. clash _ h.comment f)
assertion_by d true true e f (inr none) ns = inr (λ a h. none a.customer h.names)
assertion_by d true true e f (inl n) (inr none) = inr (λ a h. none a.providers (record { items = h.providers; is = h.attests; each = h.numbers }))
assertion_by d true true e f (inl n) (inl ns) =
    inl (record { customer = n.0; providers = ns.0 }, record { only = e; names = n.1; providers = ns.1.items; attests = ns.1.is; numbers = ns.1.each; comment = f })

assertion_or_none : (d : Data) → SomeOrNone (IsAssertion d)
assertion_or_none d =
    assertion_by d (has_only (codes "comment" ∷ codes "customerAsn" ∷ codes "providerAsns" ∷ []) d) (may_have_text (codes "comment") d) refl refl
    (found_or_none (number_at (codes "customerAsn") d)) (array_or_none IsNumber number_or_none (codes "providerAsns") d)

-- ---- elements with prefixes

prefix_filter_with : (d : Data) (prefix : Option (List ℕ)) (asn : Option Num) (p : Bool) → (is_some prefix || is_some asn) ≡ p → has_only (codes "asn" ∷ codes "comment" ∷ codes "prefix" ∷ []) d ≡ true
    → may_have_text (codes "comment") d ≡ true → text_if_there (codes "prefix") d ≡ Some prefix → number_if_there (codes "asn") d ≡ Some asn → SomeOrNone (IsPrefixFilter d)
prefix_filter_with d prefix asn true some e f g h = inl (record { prefix = prefix; asn = asn }, record { only = e; prefix = g; asn = h; some = some; comment = f })
prefix_filter_with d prefix asn false some e f g h = inr (λ a is.
    let prefixes : a.prefix ≡ prefix = same_some _ a.prefix prefix is.prefix g in
    let asns : a.asn ≡ asn = same_some _ a.asn asn is.asn h in
    clash (is_some a.prefix || is_some a.asn) is.some ((λ i. (is_some (prefixes i) || is_some (asns i))) ∙ some))

prefix_filter_by : (d : Data) (p q : Bool) → has_only (codes "asn" ∷ codes "comment" ∷ codes "prefix" ∷ []) d ≡ p → may_have_text (codes "comment") d ≡ q
    → SomeOrNone (λ x. text_if_there (codes "prefix") d ≡ Some x) → SomeOrNone (λ x. number_if_there (codes "asn") d ≡ Some x) → SomeOrNone (IsPrefixFilter d)
prefix_filter_by d false q e f g h = inr (λ a is. clash _ is.only e)
prefix_filter_by d true false e f g h = inr (λ a is. clash _ is.comment f)
prefix_filter_by d true true e f (inr none) h = inr (λ a is. none a.prefix is.prefix)
prefix_filter_by d true true e f (inl g) (inr none) = inr (λ a is. none a.asn is.asn)
prefix_filter_by d true true e f (inl g) (inl h) = prefix_filter_with d g.0 h.0 (is_some g.0 || is_some h.0) refl e f g.1 h.1

prefix_filter_or_none : (d : Data) → SomeOrNone (IsPrefixFilter d)
prefix_filter_or_none d = prefix_filter_by d (has_only (codes "asn" ∷ codes "comment" ∷ codes "prefix" ∷ []) d) (may_have_text (codes "comment") d) refl refl
    (found_or_none (text_if_there (codes "prefix") d)) (found_or_none (number_if_there (codes "asn") d))

prefix_assertion_by : (d : Data) (p q : Bool) → has_only (codes "asn" ∷ codes "comment" ∷ codes "maxPrefixLength" ∷ codes "prefix" ∷ []) d ≡ p → may_have_text (codes "comment") d ≡ q
    → SomeOrNone (λ x. text_if_there (codes "prefix") d ≡ Some (Some x)) → SomeOrNone (λ x. number_if_there (codes "asn") d ≡ Some (Some x))
    → SomeOrNone (λ x. number_if_there (codes "maxPrefixLength") d ≡ Some x) → SomeOrNone (IsPrefixAssertion d)
prefix_assertion_by d false q e f g h m = inr (λ a is. clash _ is.only e)
prefix_assertion_by d true false e f g h m = inr (λ a is. clash _ is.comment f)
prefix_assertion_by d true true e f (inr none) h m = inr (λ a is. none a.prefix is.prefix)
prefix_assertion_by d true true e f (inl g) (inr none) m = inr (λ a is. none a.asn is.asn)
prefix_assertion_by d true true e f (inl g) (inl h) (inr none) = inr (λ a is. none a.max is.max)
prefix_assertion_by d true true e f (inl g) (inl h) (inl m) =
    inl (record { prefix = g.0; asn = h.0; max = m.0 }, record { only = e; prefix = g.1; asn = h.1; max = m.1; comment = f })

prefix_assertion_or_none : (d : Data) → SomeOrNone (IsPrefixAssertion d)
prefix_assertion_or_none d =
    prefix_assertion_by d (has_only (codes "asn" ∷ codes "comment" ∷ codes "maxPrefixLength" ∷ codes "prefix" ∷ []) d) (may_have_text (codes "comment") d) refl refl
    (there_or_none (text_if_there (codes "prefix") d)) (there_or_none (number_if_there (codes "asn") d)) (found_or_none (number_if_there (codes "maxPrefixLength") d))

arrays_by : (names : List (List ℕ)) (d : Data) (p q : Bool) → has_only names d ≡ p → are_arrays names d ≡ q
    → HasArrays names d ⊎ (HasArrays names d → ⊥)
arrays_by names d false q e f = inr (λ h. clash _ h.only e)
arrays_by names d true false e f = inr (λ h. clash _ h.arrays f)
arrays_by names d true true e f = inl (record { only = e; arrays = f })

arrays_or_not : (names : List (List ℕ)) (d : Data) → HasArrays names d ⊎ (HasArrays names d → ⊥)
arrays_or_not names d = arrays_by names d (has_only names d) (are_arrays names d) refl refl

-- both parts of a list and its prefixes, behind what the object is
both_parts : {A B C : Type 0} (P : Type 0) (Q : A → Type 0) (R : B → Type 0) (make : A → B → C) (T : C → Type 0)
    → ((a : A) (b : B) → P → Q a → R b → T (make a b)) → ((c : C) → T c → P) → ((c : C) → T c → (a : A) × Q a) → ((c : C) → T c → (b : B) × R b)
    → P ⊎ (P → ⊥) → SomeOrNone Q → SomeOrNone R → SomeOrNone T
both_parts P Q R make T build to_p to_q to_r (inr none) q r = inr (λ c t. none (to_p c t))
both_parts P Q R make T build to_p to_q to_r (inl p) (inr none) r = inr (λ c t. let it = to_q c t in none it.0 it.1)
both_parts P Q R make T build to_p to_q to_r (inl p) (inl q) (inr none) = inr (λ c t. let it = to_r c t in none it.0 it.1)
both_parts P Q R make T build to_p to_q to_r (inl p) (inl q) (inl r) = inl (make q.0 r.0, build q.0 r.0 p q.1 r.1)

empty_or_none : {A : Type 0} → SomeOrNone (λ (list : List A). list ≡ [])
empty_or_none = inl ([], refl)

filters_or_none : (version : Version) (d : Data) → SomeOrNone (IsFilterPart version d)
filters_or_none One d = both_parts (HasArrays (codes "bgpsecFilters" ∷ codes "prefixFilters" ∷ []) d) (λ list. list ≡ []) (ArrayIs IsPrefixFilter (codes "prefixFilters") d)
    (λ customers prefixes. record { customers = customers; prefixes = prefixes }) (IsFilterPart One d)
    (λ a b p q r. (p, q, r)) (λ c t. t.0) (λ c t. (c.customers, t.1)) (λ c t. (c.prefixes, t.2))
    (arrays_or_not _ d) empty_or_none (array_or_none IsPrefixFilter prefix_filter_or_none (codes "prefixFilters") d)
filters_or_none Two d = both_parts (HasArrays (codes "aspaFilters" ∷ codes "bgpsecFilters" ∷ codes "prefixFilters" ∷ []) d) (ArrayIs IsFilter (codes "aspaFilters") d)
    (ArrayIs IsPrefixFilter (codes "prefixFilters") d)
    (λ customers prefixes. record { customers = customers; prefixes = prefixes }) (IsFilterPart Two d)
    (λ a b p q r. (p, q, r)) (λ c t. t.0) (λ c t. (c.customers, t.1)) (λ c t. (c.prefixes, t.2))
    (arrays_or_not _ d) (array_or_none IsFilter filter_or_none (codes "aspaFilters") d) (array_or_none IsPrefixFilter prefix_filter_or_none (codes "prefixFilters") d)

assertions_or_none : (version : Version) (d : Data) → SomeOrNone (IsAssertionPart version d)
assertions_or_none One d = both_parts (HasArrays (codes "bgpsecAssertions" ∷ codes "prefixAssertions" ∷ []) d) (λ list. list ≡ []) (ArrayIs IsPrefixAssertion (codes "prefixAssertions") d)
    (λ attestations prefixes. record { attestations = attestations; prefixes = prefixes }) (IsAssertionPart One d)
    (λ a b p q r. (p, q, r)) (λ c t. t.0) (λ c t. (c.attestations, t.1)) (λ c t. (c.prefixes, t.2))
    (arrays_or_not _ d) empty_or_none (array_or_none IsPrefixAssertion prefix_assertion_or_none (codes "prefixAssertions") d)
assertions_or_none Two d = both_parts (HasArrays (codes "aspaAssertions" ∷ codes "bgpsecAssertions" ∷ codes "prefixAssertions" ∷ []) d) (ArrayIs IsAssertion (codes "aspaAssertions") d)
    (ArrayIs IsPrefixAssertion (codes "prefixAssertions") d)
    (λ attestations prefixes. record { attestations = attestations; prefixes = prefixes }) (IsAssertionPart Two d)
    (λ a b p q r. (p, q, r)) (λ c t. t.0) (λ c t. (c.attestations, t.1)) (λ c t. (c.prefixes, t.2))
    (arrays_or_not _ d) (array_or_none IsAssertion assertion_or_none (codes "aspaAssertions") d) (array_or_none IsPrefixAssertion prefix_assertion_or_none (codes "prefixAssertions") d)

file_by : (version : Version) (d : Data) (p : Bool)
    → has_only (codes "locallyAddedAssertions" ∷ codes "slurmVersion" ∷ codes "validationOutputFilters" ∷ []) d ≡ p
    → SomeOrNone (MemberIs (IsFilterPart version) (codes "validationOutputFilters") d)
    → SomeOrNone (MemberIs (IsAssertionPart version) (codes "locallyAddedAssertions") d) → SomeOrNone (IsFile version d)
file_by version d false e fs as_ = inr (λ form h. clash _ h.only e)
file_by version d true e (inr none) as_ = inr (λ form h. none form.filters h.filters)
file_by version d true e (inl fs) (inr none) = inr (λ form h. none form.assertions h.assertions)
file_by version d true e (inl fs) (inl as_) = inl (record { filters = fs.0; assertions = as_.0 }, record { only = e; filters = fs.1; assertions = as_.1 })

pub file_or_none : (version : Version) (d : Data) → SomeOrNone (IsFile version d)
file_or_none version d =
    file_by version d (has_only (codes "locallyAddedAssertions" ∷ codes "slurmVersion" ∷ codes "validationOutputFilters" ∷ []) d) refl
    (member_or_none (IsFilterPart version) (filters_or_none version) (codes "validationOutputFilters") d)
    (member_or_none (IsAssertionPart version) (assertions_or_none version) (codes "locallyAddedAssertions") d)

-- ---- the version

version_two : (tree : Data) (k : ℕ) (q : Bool) → number_at (codes "slurmVersion") tree ≡ Some (unsigned k) → (k ≡ 1 → ⊥)
    → eqb k 2 ≡ q → SomeOrNone (λ v. HasVersion v tree)
version_two tree k true e other f = inl (Two, e ∙ ap (λ (n : ℕ). Some (unsigned n)) (eqb-true k 2 f))
version_two tree k false e other f = inr none
  where
    none : (v : Version) → HasVersion v tree → ⊥
    none One h = other (unsigned_injective k 1 (same_some _ (unsigned k) (unsigned 1) e h))
    none Two h = eqb-false k 2 f (unsigned_injective k 2 (same_some _ (unsigned k) (unsigned 2) e h))

version_one : (tree : Data) (k : ℕ) (p : Bool) → number_at (codes "slurmVersion") tree ≡ Some (unsigned k) → eqb k 1 ≡ p
    → SomeOrNone (λ v. HasVersion v tree)
version_one tree k true e f = inl (One, e ∙ ap (λ (n : ℕ). Some (unsigned n)) (eqb-true k 1 f))
version_one tree k false e f = version_two tree k (eqb k 2) e (eqb-false k 1 f) refl

version_by : (tree : Data) → SomeOrNone (λ n. number_at (codes "slurmVersion") tree ≡ Some n)
    → SomeOrNone (λ v. HasVersion v tree)
version_by tree (inr none) = inr (λ v h. none _ h)
version_by tree (inl (unsigned k, e)) = version_one tree k (eqb k 1) e refl
version_by tree (inl (negative z, e)) = inr (λ v h. not_negative z _ (same_some _ (negative z) _ e h))
version_by tree (inl (float x, e)) = inr (λ v h. not_float x _ (same_some _ (float x) _ e h))

pub version_or_none : (tree : Data) → SomeOrNone (λ v. HasVersion v tree)
version_or_none tree = version_by tree (found_or_none (number_at (codes "slurmVersion") tree))
