-- Any form comes to something, or to nothing.
use Rattle.std.proofs.Common.{◌≡◌, ℕ, ◌^◌, ◌<◌, ◌⊎◌, inl, inr, Bool, true, false, ltb, List, [], ◌∷◌, map, Option, Some, None, refl, subst, arith}
use Rattle.std.proofs.lemmas.Bool.{ltb-true, ltb-false}
use Rattle.std.proofs.lemmas.Bool.Decides.{leb_tells}
use Rattle.std.specs.declared.result.Result.TheVariants.{Err}
use Rattle.serde_json.specs.Data.{Num, unsigned, negative, float}
use Rattle.path_model.specs.Ascending.{ascending_of}
use Rattle.path_model.specs.Prefix.{Subnet, bits_of}
use Rattle.path_model.proofs.UnionLawLemmas.{some_set, some_union}
use Rattle.origin_model.specs.declared.prefix_filter.PrefixFilter.{PrefixFilter}
use Rattle.origin_model.specs.Vrp.{Payload, IsPayload, payload_of}
use Rattle.origin_model.proofs.ChangeLemmas.{set_of_all, set_of_all-in_order, set_of_all-same}
use Rattle.any_prefix.specs.AnyPrefix.{IsAnyPrefixText}
use Rattle.any_prefix.proofs.DecideLemmas.{SomeOrNone, prefix_or_none}
use Rattle.json_fields.specs.Each.{Each}
use Rattle.slurm_rules.specs.Form.{Assertion, Form, PrefixAssertionText, PrefixFilterText}
use Rattle.slurm_rules.specs.Numbers.{AreAssertions, ArePrefixAssertions, ContentIs, HasAsns, HasAssertedAsn, HasFilteredAsn, IsAsn, IsAsnIfThere, IsPrefixIfThere, IsFilterOf, IsMax, IsPayloadOf, Attests, IsContent}
use Rattle.slurm_rules.specs.Answers.{Misses}
use Rattle.slurm_rules.specs.declared.fault.SlurmFault.{SlurmFault}
use Rattle.slurm_rules.specs.declared.fault.SlurmFault.TheVariants.{Json, Version, Member, Number, PrefixText, NoMemory}
use Rattle.slurm_rules.specs.declared.slurm.Slurm.{Slurm}
use Rattle.json_fields.proofs.FoundLemmas.{each_or_none, not_float, not_negative}
use Rattle.json_fields.proofs.FoundLemmas.{unsigned_injective}
use Rattle.slurm_rules.proofs.OneLemmas.{one_asn, one_max, one_prefix}

-- ---- the numbers

asn_by : (k : ℕ) (p : Bool) → ltb k (2 ^ 32) ≡ p → SomeOrNone (IsAsn (unsigned k))
asn_by k true e = inl (k, (refl, ltb-true _ _ e))
asn_by k false e = inr (λ x h. let same = unsigned_injective k x h.0 in let small = h.1 in let big = ltb-false _ _ e in absurd (omega arith))

pub asn_or_none : (n : Num) → SomeOrNone (IsAsn n)
asn_or_none (unsigned k) = asn_by k (ltb k (2 ^ 32)) refl
asn_or_none (negative z) = inr (λ x h. not_negative z x h.0)
asn_or_none (float y) = inr (λ x h. not_float y x h.0)

attests_by : (a : Assertion) → SomeOrNone (IsAsn a.customer) → SomeOrNone (Each IsAsn a.providers) → SomeOrNone (Attests a)
attests_by a (inr none) ns = inr (λ x h. none x.customer h.customer)
attests_by a (inl n) (inr none) = inr (λ x h. none x.providers h.providers)
attests_by a (inl n) (inl ns) = inl (record { customer = n.0; providers = ns.0 }, record { customer = n.1; providers = ns.1 })

attests_or_none : (a : Assertion) → SomeOrNone (Attests a)
attests_or_none a = attests_by a (asn_or_none a.customer) (each_or_none IsAsn asn_or_none a.providers)

-- ---- prefixes

asn_if_there_or_none : (n : Option Num) → SomeOrNone (IsAsnIfThere n)
asn_if_there_or_none None = inl (None, tt)
asn_if_there_or_none (Some n) = by (asn_or_none n) where
  by : SomeOrNone (IsAsn n) → SomeOrNone (IsAsnIfThere (Some n))
  by (inl x) = inl (Some x.0, x.1)
  by (inr none) = inr never where
    never : (o : Option ℕ) → IsAsnIfThere (Some n) o → ⊥
    never None h = h
    never (Some x) h = none x h

prefix_if_there_or_none : (text : Option (List ℕ)) → SomeOrNone (IsPrefixIfThere text)
prefix_if_there_or_none None = inl (None, tt)
prefix_if_there_or_none (Some text) = by (prefix_or_none text) where
  by : SomeOrNone (IsAnyPrefixText text) → SomeOrNone (IsPrefixIfThere (Some text))
  by (inl p) = inl (Some p.0, p.1)
  by (inr none) = inr never where
    never : (o : Option Subnet) → IsPrefixIfThere (Some text) o → ⊥
    never None h = h
    never (Some p) h = none p h

filter_of_by : (w : PrefixFilterText) → SomeOrNone (IsPrefixIfThere w.prefix) → SomeOrNone (IsAsnIfThere w.asn) → SomeOrNone (IsFilterOf w)
filter_of_by w (inr none) asn = inr (λ f h. none f.prefix h.prefix)
filter_of_by w (inl prefix) (inr none) = inr (λ f h. none f.asn h.asn)
filter_of_by w (inl prefix) (inl asn) = inl (record { prefix = prefix.0; asn = asn.0 }, record { prefix = prefix.1; asn = asn.1 })

filter_of_or_none : (w : PrefixFilterText) → SomeOrNone (IsFilterOf w)
filter_of_or_none w = filter_of_by w (prefix_if_there_or_none w.prefix) (asn_if_there_or_none w.asn)

max_or_none : (n : Option Num) (p : Subnet) → SomeOrNone (IsMax n p)
max_or_none None p = inl (p.len, refl)
max_or_none (Some (unsigned k)) p = inl (k, refl)
max_or_none (Some (negative z)) p = inr (λ x h. not_negative z x h)
max_or_none (Some (float y)) p = inr (λ x h. not_float y x h)

fits_or_not : (v : Payload) → v.asn < 2 ^ 32 → IsPayload v ⊎ (IsPayload v → ⊥)
fits_or_not v asn = elim (leb_tells v.prefix.len v.max) [
  | inr below ↦ inr (λ (is : IsPayload v). let never : ⊥ = omega (arith, is.reaches, below.1) in never)
  | inl reaches ↦ elim (leb_tells v.max (bits_of v.prefix.addr)) [
    | inl within ↦ inl (record { asn = asn; reaches = reaches.1; within = within.1 })
    | inr over ↦ inr (λ (is : IsPayload v). let never : ⊥ = omega (arith, is.within, over.1) in never)
  ]
]

module _ (w : PrefixAssertionText) where
  -- what is read is the only one that can be meant
  payload_by : (p : Subnet) → IsAnyPrefixText w.prefix p → (max : ℕ) → IsMax w.max p max → (asn : ℕ) → IsAsn w.asn asn
      → IsPayload (payload_of p max asn) ⊎ (IsPayload (payload_of p max asn) → ⊥) → SomeOrNone (IsPayloadOf w)
  payload_by p prefix max is_max asn is_asn (inl fits) = inl (payload_of p max asn, record { prefix = prefix; max = is_max; asn = is_asn; is_payload = fits })
  payload_by p prefix max is_max asn is_asn (inr not) = inr (λ v h.
      let prefixes : v.prefix ≡ p = one_prefix w.prefix v.prefix p h.prefix prefix in
      let maxima : v.max ≡ max = one_max w.max p v.max max (subst (λ (q : Subnet). IsMax w.max q v.max) prefixes h.max) is_max in
      let asns : v.asn ≡ asn = one_asn w.asn v.asn asn h.asn is_asn in
      let same : v ≡ payload_of p max asn = (λ i. record { prefix = prefixes i; max = maxima i; asn = asns i }) in
      not (subst IsPayload same h.is_payload))

  payload_asn : (p : Subnet) → IsAnyPrefixText w.prefix p → (max : ℕ) → IsMax w.max p max → SomeOrNone (IsAsn w.asn) → SomeOrNone (IsPayloadOf w)
  payload_asn p prefix max is_max (inr none) = inr (λ v h. none v.asn h.asn)
  payload_asn p prefix max is_max (inl asn) = payload_by p prefix max is_max asn.0 asn.1 (fits_or_not (payload_of p max asn.0) asn.1.1)

  payload_max : (p : Subnet) → IsAnyPrefixText w.prefix p → SomeOrNone (IsMax w.max p) → SomeOrNone (IsPayloadOf w)
  payload_max p prefix (inr none) = inr (λ v h. none v.max (subst (λ (q : Subnet). IsMax w.max q v.max) (one_prefix w.prefix v.prefix p h.prefix prefix) h.max))
  payload_max p prefix (inl max) = payload_asn p prefix max.0 max.1 (asn_or_none w.asn)

  payload_prefix : SomeOrNone (IsAnyPrefixText w.prefix) → SomeOrNone (IsPayloadOf w)
  payload_prefix (inr none) = inr (λ v h. none v.prefix h.prefix)
  payload_prefix (inl p) = payload_max p.0 p.1 (max_or_none w.max p.0)

payload_of_or_none : (w : PrefixAssertionText) → SomeOrNone (IsPayloadOf w)
payload_of_or_none w = payload_prefix w (prefix_or_none w.prefix)

payloads_by : (ws : List PrefixAssertionText) → SomeOrNone (Each IsPayloadOf ws) → SomeOrNone (ArePrefixAssertions ws)
payloads_by ws (inr none) = inr (λ set h. none h.payloads h.each)
payloads_by ws (inl vs) = inl (set_of_all vs.0, record { payloads = vs.0; each = vs.1; in_order = set_of_all-in_order vs.0; same = set_of_all-same vs.0 })

pub payloads_or_none : (ws : List PrefixAssertionText) → SomeOrNone (ArePrefixAssertions ws)
payloads_or_none ws = payloads_by ws (each_or_none IsPayloadOf payload_of_or_none ws)

-- ---- the content

filtered_or_none : (w : PrefixFilterText) → SomeOrNone (HasFilteredAsn w)
filtered_or_none w = asn_if_there_or_none w.asn

asserted_or_none : (w : PrefixAssertionText) → SomeOrNone (HasAssertedAsn w)
asserted_or_none w = asn_or_none w.asn

asns_by : (form : Form) → SomeOrNone (Each IsAsn form.filters.customers) → SomeOrNone (Each Attests form.assertions.attestations) → SomeOrNone (Each HasFilteredAsn form.filters.prefixes)
    → SomeOrNone (Each HasAssertedAsn form.assertions.prefixes) → HasAsns form ⊎ (HasAsns form → ⊥)
asns_by form (inr none) xs fs as_ = inr (λ h. none h.customers h.are_customers)
asns_by form (inl ns) (inr none) fs as_ = inr (λ h. none h.attestations h.are_attested)
asns_by form (inl ns) (inl xs) (inr none) as_ = inr (λ h. none h.filtered h.are_filtered)
asns_by form (inl ns) (inl xs) (inl fs) (inr none) = inr (λ h. none h.asserted h.are_asserted)
asns_by form (inl ns) (inl xs) (inl fs) (inl as_) = inl (record {
  customers = ns.0;
  are_customers = ns.1;
  attestations = xs.0;
  are_attested = xs.1;
  filtered = fs.0;
  are_filtered = fs.1;
  asserted = as_.0;
  are_asserted = as_.1;
})

pub asns_or_not : (form : Form) → HasAsns form ⊎ (HasAsns form → ⊥)
asns_or_not form =
    asns_by form (each_or_none IsAsn asn_or_none form.filters.customers) (each_or_none Attests attests_or_none form.assertions.attestations)
    (each_or_none HasFilteredAsn filtered_or_none form.filters.prefixes) (each_or_none HasAssertedAsn asserted_or_none form.assertions.prefixes)

content_by : (form : Form) → HasAsns form → SomeOrNone (Each IsFilterOf form.filters.prefixes) → SomeOrNone (ArePrefixAssertions form.assertions.prefixes) → SomeOrNone (IsContent form)
content_by form has (inr none) xs = inr (λ slurm h. none slurm.prefix_filters h.prefix_filters)
content_by form has (inl fs) (inr none) = inr (λ slurm h. none slurm.prefix_assertions h.prefix_assertions)
content_by form has (inl fs) (inl xs) =
    let u = some_union has.attestations in
    inl (
      record { filters = ascending_of has.customers; assertions = u.0; prefix_filters = fs.0; prefix_assertions = xs.0 },
      record {
        filters = record { asns = has.customers; each = has.are_customers; is_set = some_set has.customers };
        assertions = record { attestations = has.attestations; each = has.are_attested; united = u.1 };
        prefix_filters = fs.1;
        prefix_assertions = xs.1;
      },
    )

pub content_or_none : (form : Form) → HasAsns form → SomeOrNone (IsContent form)
content_or_none form has = content_by form has (each_or_none IsFilterOf filter_of_or_none form.filters.prefixes) (payloads_or_none form.assertions.prefixes)

-- ---- what comes to something has AS numbers

each_follows : {D A B : Type 0} (R : D → A → Type 0) (T : D → B → Type 0) (f : A → B) → ((d : D) (a : A) → R d a → T d (f a)) → (ds : List D) (xs : List A) → Each R ds xs → Each T ds (map f xs)
each_follows R T f leads [] [] e = tt
each_follows R T f leads [] (x ∷ xs) e = absurd e
each_follows R T f leads (d ∷ ds) [] e = absurd e
each_follows R T f leads (d ∷ ds) (x ∷ xs) e = (leads d x e.0, each_follows R T f leads ds xs e.1)

pub content_asns : (form : Form) (slurm : Slurm) → IsContent form slurm → HasAsns form
content_asns form slurm is = record {
  customers = is.filters.asns;
  are_customers = is.filters.each;
  attestations = is.assertions.attestations;
  are_attested = is.assertions.each;
  filtered = map (λ (f : PrefixFilter). f.asn) slurm.prefix_filters;
  are_filtered = each_follows IsFilterOf HasFilteredAsn (λ (f : PrefixFilter). f.asn) (λ w f h. h.asn) form.filters.prefixes slurm.prefix_filters is.prefix_filters;
  asserted = map (λ (v : Payload). v.asn) is.prefix_assertions.payloads;
  are_asserted = each_follows IsPayloadOf HasAssertedAsn (λ (v : Payload). v.asn) (λ w v h. h.asn) form.assertions.prefixes is.prefix_assertions.payloads is.prefix_assertions.each;
}

-- ---- where no content comes

no_other : {P : Type 0} (one other : SlurmFault) → one ≡ other → (one ≡ other → ⊥) → P
no_other one other same not = absurd (not same)

pub no_attestations : (form : Form) (fault : SlurmFault) → Misses Number fault (AreAssertions form.assertions.attestations) → ContentIs form (Err fault)
no_attestations form NoMemory h = tt
no_attestations form Number h = λ has. let u = some_union has.attestations in h.1 u.0 (record { attestations = has.attestations; each = has.are_attested; united = u.1 })
no_attestations form Json h = no_other Json Number h.0 (λ e. let never : ⊥ = cc in never)
no_attestations form Version h = no_other Version Number h.0 (λ e. let never : ⊥ = cc in never)
no_attestations form Member h = no_other Member Number h.0 (λ e. let never : ⊥ = cc in never)
no_attestations form PrefixText h = no_other PrefixText Number h.0 (λ e. let never : ⊥ = cc in never)

pub no_assertions : (form : Form) (fault : SlurmFault) → HasAsns form → Misses PrefixText fault (ArePrefixAssertions form.assertions.prefixes) → ContentIs form (Err fault)
no_assertions form NoMemory has h = tt
no_assertions form PrefixText has h = (has, λ slurm is. h.1 slurm.prefix_assertions is.prefix_assertions)
no_assertions form Json has h = no_other Json PrefixText h.0 (λ e. let never : ⊥ = cc in never)
no_assertions form Version has h = no_other Version PrefixText h.0 (λ e. let never : ⊥ = cc in never)
no_assertions form Member has h = no_other Member PrefixText h.0 (λ e. let never : ⊥ = cc in never)
no_assertions form Number has h = no_other Number PrefixText h.0 (λ e. let never : ⊥ = cc in never)
