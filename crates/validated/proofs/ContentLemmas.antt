-- A form comes to one thing, or to nothing.
use Rattle.std.proofs.Common.{◌≡◌, ◌⊎◌, inl, inr, ℕ, List, Option, Some, None, option_map, refl, sym, ap, ◌∙◌, subst}
use Rattle.serde_json.specs.Data.{unsigned}
use Rattle.path_model.specs.Ascending.{ascending_of}
use Rattle.path_model.specs.Sets.{IsSetOf}
use Rattle.path_model.proofs.UnionLawLemmas.{one_set, some_set}
use Rattle.attestations.specs.Terms.{TermMap}
use Rattle.origin_model.specs.Vrp.{Payload}
use Rattle.aspa_payload.specs.Lines.{AreAttested}
use Rattle.aspa_payload.specs.declared.line.Dated.{Dated}
use Rattle.aspa_payload.proofs.AttestedLemmas.{one_attested, some_attested}
use Rattle.json_fields.specs.Each.{Each, IfThere}
use Rattle.json_fields.proofs.FoundLemmas.{SomeOrNone, each_or_none, none_found, same_each, same_some}
use Rattle.slurm_rules.specs.Form.{PrefixAssertionText}
use Rattle.slurm_rules.specs.Numbers.{ArePrefixAssertions}
use Rattle.slurm_rules.proofs.ContentLemmas.{payloads_or_none}
use Rattle.slurm_rules.proofs.OneLemmas.{one_payload_set}
use Rattle.validated.specs.Content.{AreAttestations, ArePayloads, Asserts, Attests, HasNumbers, IsContent, IsEnd, IsNumber}
use Rattle.validated.specs.Form.{Aspa, Form, Roa}
use Rattle.validated.specs.declared.validated_file.Validated.{Validated}
use Rattle.validated.proofs.FormLemmas.{if_there_or_none, one_there}

-- ---- numbers and ends

number_or_none : (numeral : Option ℕ) → SomeOrNone (IsNumber numeral)
number_or_none None = inr (λ x e. none_found None x refl e)
number_or_none (Some x) = inl (x, refl)

one_number : (numeral : Option ℕ) (x y : ℕ) → IsNumber numeral x → IsNumber numeral y → x ≡ y
one_number numeral x y s t = same_some numeral x y s t

no_end : (until : Option ℕ) → IsEnd (Some None) until → ⊥
no_end None e = cc
no_end (Some x) e = cc

end_or_none : (expires : Option (Option ℕ)) → SomeOrNone (IsEnd expires)
end_or_none None = inl (None, refl)
end_or_none (Some None) = inr no_end
end_or_none (Some (Some x)) = inl (Some x, refl)

same_end : (a b : Option ℕ) → option_map {U = Option ℕ} Some a ≡ option_map Some b → a ≡ b
same_end None None e = refl
same_end None (Some b) e = absurd cc
same_end (Some a) None e = absurd cc
same_end (Some a) (Some b) e = let within : Some a ≡ Some b = cc in within

one_end : (expires : Option (Option ℕ)) (a b : Option ℕ) → IsEnd expires a → IsEnd expires b → a ≡ b
one_end expires a b s t = same_end a b (sym s ∙ t)

-- ---- attestations

attests_by : (aspa : Aspa) → SomeOrNone (IsNumber aspa.customer) → SomeOrNone (Each IsNumber aspa.providers) → SomeOrNone (IsEnd aspa.expires) → SomeOrNone (Attests aspa)
attests_by aspa (inr none) ps e = inr (λ unit h. none unit.payload.customer h.customer)
attests_by aspa (inl c) (inr none) e = inr (λ unit h. none h.asns h.written)
attests_by aspa (inl c) (inl ps) (inr none) = inr (λ unit h. none unit.until h.until)
attests_by aspa (inl c) (inl ps) (inl e) = inl (
  record { payload = record { customer = c.0; providers = ascending_of ps.0 }; until = e.0 },
  record { customer = c.1; asns = ps.0; written = ps.1; providers = some_set ps.0; until = e.1 },
)

attests_or_none : (aspa : Aspa) → SomeOrNone (Attests aspa)
attests_or_none aspa = attests_by aspa (number_or_none aspa.customer) (each_or_none IsNumber number_or_none aspa.providers) (end_or_none aspa.expires)

one_unit : (aspa : Aspa) (a b : Dated) → Attests aspa a → Attests aspa b → a ≡ b
one_unit aspa a b s t =
    let customers : a.payload.customer ≡ b.payload.customer = one_number aspa.customer a.payload.customer b.payload.customer s.customer t.customer in
    let asns : s.asns ≡ t.asns = same_each IsNumber one_number aspa.providers s.asns t.asns s.written t.written in
    let sets : a.payload.providers ≡ b.payload.providers =
    one_set t.asns a.payload.providers b.payload.providers (subst (λ (list : List ℕ). IsSetOf list a.payload.providers) asns s.providers) t.providers in
    let ends : a.until ≡ b.until = one_end aspa.expires a.until b.until s.until t.until in
    λ i. record { payload = record { customer = customers i; providers = sets i }; until = ends i }

one_terms : (aspas : List Aspa) (a b : TermMap) → AreAttestations aspas a → AreAttestations aspas b → a ≡ b
one_terms aspas a b s t =
    let same : s.units ≡ t.units = same_each Attests one_unit aspas s.units t.units s.each t.each in
    one_attested t.units a b (subst (λ (us : List Dated). AreAttested us a) same s.attested) t.attested

-- ---- records

asserts_by : (roa : Roa) → SomeOrNone (IsNumber roa.asn) → SomeOrNone (IsEnd roa.expires) → SomeOrNone (Asserts roa)
asserts_by roa (inr none) e = inr (λ a h. none h.asn h.written)
asserts_by roa (inl n) (inr none) = inr (λ a h. none h.until h.ends)
asserts_by roa (inl n) (inl e) = inl (
  record { prefix = roa.prefix; asn = unsigned n.0; max = roa.max },
  record { asn = n.0; written = n.1; number = refl; prefix = refl; max = refl; until = e.0; ends = e.1 },
)

asserts_or_none : (roa : Roa) → SomeOrNone (Asserts roa)
asserts_or_none roa = asserts_by roa (number_or_none roa.asn) (end_or_none roa.expires)

one_assertion : (roa : Roa) (a b : PrefixAssertionText) → Asserts roa a → Asserts roa b → a ≡ b
one_assertion roa a b s t =
    let numbers : s.asn ≡ t.asn = one_number roa.asn s.asn t.asn s.written t.written in
    let asns : a.asn ≡ b.asn = s.number ∙ ap unsigned numbers ∙ sym t.number in
    let prefixes : a.prefix ≡ b.prefix = s.prefix ∙ sym t.prefix in
    let maxima : a.max ≡ b.max = s.max ∙ sym t.max in
    λ i. record { prefix = prefixes i; asn = asns i; max = maxima i }

same_assertions : (roas : List Roa) (xs ys : List PrefixAssertionText) → Each Asserts roas xs → Each Asserts roas ys → xs ≡ ys
same_assertions roas xs ys s t = same_each Asserts one_assertion roas xs ys s t

one_payloads : (roas : List Roa) (a b : List Payload) → ArePayloads roas a → ArePayloads roas b → a ≡ b
one_payloads roas a b s t =
    let same = same_assertions roas s.assertions t.assertions s.each t.each in
    one_payload_set t.assertions a b (subst (λ (xs : List PrefixAssertionText). ArePrefixAssertions xs a) same s.asserted) t.asserted

-- what isn't asserted by these assertions isn't asserted at all
pub no_payloads : (roas : List Roa) (xs : List PrefixAssertionText) → Each Asserts roas xs → ((set : List Payload) → ArePrefixAssertions xs set → ⊥)
    → (set : List Payload) → ArePayloads roas set → ⊥
no_payloads roas xs each none set h =
    none set (subst (λ (ys : List PrefixAssertionText). ArePrefixAssertions ys set) (same_assertions roas h.assertions xs h.each each) h.asserted)

payloads_by : (roas : List Roa) (xs : List PrefixAssertionText) → Each Asserts roas xs → SomeOrNone (ArePrefixAssertions xs) → SomeOrNone (ArePayloads roas)
payloads_by roas xs each (inl set) = inl (set.0, record { assertions = xs; each = each; asserted = set.1 })
payloads_by roas xs each (inr none) = inr (no_payloads roas xs each none)

-- ---- the whole form

numbers_by : (form : Form) → SomeOrNone (Each Attests form.aspas) → SomeOrNone (IfThere (Each Asserts) form.roas) → HasNumbers form ⊎ (HasNumbers form → ⊥)
numbers_by form (inr none) as_ = inr (λ h. none h.units h.attest)
numbers_by form (inl us) (inr none) = inr (λ h. none h.assertions h.assert_)
numbers_by form (inl us) (inl as_) = inl (record { units = us.0; attest = us.1; assertions = as_.0; assert_ = as_.1 })

pub numbers_or_not : (form : Form) → HasNumbers form ⊎ (HasNumbers form → ⊥)
numbers_or_not form =
    numbers_by form (each_or_none Attests attests_or_none form.aspas) (if_there_or_none (Each Asserts) (each_or_none Asserts asserts_or_none) form.roas)

records_by : (roas : Option (List Roa)) (as_ : Option (List PrefixAssertionText)) → IfThere (Each Asserts) roas as_ → SomeOrNone (IfThere ArePayloads roas)
records_by None as_ h = inl (None, tt)
records_by (Some roas) None h = absurd h
records_by (Some roas) (Some xs) h = by (payloads_by roas xs h (payloads_or_none xs)) where
  by : SomeOrNone (ArePayloads roas) → SomeOrNone (IfThere ArePayloads (Some roas))
  by (inl set) = inl (Some set.0, set.1)
  by (inr none) = inr never where
    never : (payloads : Option (List Payload)) → IfThere ArePayloads (Some roas) payloads → ⊥
    never None k = k
    never (Some set) k = none set k

content_by : (form : Form) → HasNumbers form → SomeOrNone (IfThere ArePayloads form.roas) → SomeOrNone (IsContent form)
content_by form has (inr none) = inr (λ v h. none v.payloads h.payloads)
content_by form has (inl ps) =
    let terms = some_attested has.units in
    inl (
      record { attestations = terms.0; payloads = ps.0 },
      record { attestations = record { units = has.units; each = has.attest; attested = terms.1 }; payloads = ps.1 },
    )

pub content_or_none : (form : Form) → HasNumbers form → SomeOrNone (IsContent form)
content_or_none form has = content_by form has (records_by form.roas has.assertions has.assert_)

pub one_content : (form : Form) (a b : Validated) → IsContent form a → IsContent form b → a ≡ b
one_content form a b s t =
    let terms : a.attestations ≡ b.attestations = one_terms form.aspas a.attestations b.attestations s.attestations t.attestations in
    let sets : a.payloads ≡ b.payloads = one_there ArePayloads one_payloads form.roas a.payloads b.payloads s.payloads t.payloads in
    λ i. record { attestations = terms i; payloads = sets i }

-- ---- what comes to something has numbers

records_asserted : (roas : Option (List Roa)) (payloads : Option (List Payload)) → IfThere ArePayloads roas payloads
    → (as_ : Option (List PrefixAssertionText)) × IfThere (Each Asserts) roas as_
records_asserted None payloads h = (None, tt)
records_asserted (Some roas) None h = absurd h
records_asserted (Some roas) (Some set) h = (Some h.assertions, h.each)

pub content_numbers : (form : Form) (v : Validated) → IsContent form v → HasNumbers form
content_numbers form v is =
    let some = records_asserted form.roas v.payloads is.payloads in
    record { units = is.attestations.units; attest = is.attestations.each; assertions = some.0; assert_ = some.1 }
