-- A tree has one form, and a form comes to one thing.
use Rattle.std.proofs.Common.{◌≡◌, ℕ, List, Option, Some, None, codes, refl, sym, ap, ◌∙◌, subst}
use Rattle.serde_json.specs.Data.{Num, unsigned, Data}
use Rattle.json_fields.specs.Each.{Each}
use Rattle.json_fields.specs.Object.{number_if_there, text_if_there}
use Rattle.std.specs.BTreeSet.{BTreeSet}
use Rattle.std.proofs.lemmas.Map.Lookups.{btree_set_from_contains}
use Rattle.path_model.specs.Prefix.{Subnet, prefix_of}
use Rattle.origin_model.specs.declared.prefix_filter.PrefixFilter.{PrefixFilter}
use Rattle.origin_model.specs.Vrp.{Payload, payload_total}
use Rattle.origin_model.specs.VrpSet.{has}
use Rattle.origin_model.proofs.PayloadLemmas.{payload_exact}
use Rattle.any_prefix.specs.AnyPrefix.{IsAnyPrefixText}
use Rattle.any_prefix.proofs.UniqueLemmas.{prefix_made, prefix_parts}
use Rattle.json_fields.specs.Object.{IsNumber}
use Rattle.slurm_rules.specs.Form.{Assertion, Assertions, Filters, Form, PrefixAssertionText, PrefixFilterText, IsFilter, IsAssertion, IsPrefixAssertion, IsPrefixFilter, IsFilterPart, IsAssertionPart, IsFile}
use Rattle.json_fields.proofs.FoundLemmas.{same_some, unsigned_injective, same_each, same_array, same_member}
use Rattle.path_model.specs.Sets.{IsSetOf}
use Rattle.path_model.specs.Rows.{RowMap}
use Rattle.path_model.specs.Union.{Attestation}
use Rattle.path_model.specs.Union.{AreUnited}
use Rattle.path_model.proofs.UnionLawLemmas.{one_set, one_union}
use Rattle.slurm_rules.specs.Numbers.{IsAsn, IsAsnIfThere, IsPrefixIfThere, Attests, AreFilters, AreAssertions, ArePrefixAssertions, IsContent, IsFilterOf, IsMax, IsPayloadOf}
use Rattle.slurm_rules.specs.declared.slurm.Slurm.{Slurm}
use Rattle.slurm_rules.specs.declared.draft.Version.{Version}
use Rattle.slurm_rules.specs.declared.draft.Version.TheVariants.{One, Two}

one_assertion : (d : Data) (a b : Assertion) → IsAssertion d a → IsAssertion d b → a ≡ b
one_assertion d a b s t =
    let customers : a.customer ≡ b.customer = same_some _ a.customer b.customer s.names t.names in
    let arrays : s.providers ≡ t.providers = same_some _ s.providers t.providers s.attests t.attests in
    let lists : a.providers ≡ b.providers = same_each IsNumber (λ x m n p q. same_some _ m n p q) t.providers a.providers b.providers (subst (λ (ds : List Data). Each IsNumber ds a.providers) arrays s.numbers) t.numbers in
    λ i. record { customer = customers i; providers = lists i }

one_prefix_filter : (d : Data) (a b : PrefixFilterText) → IsPrefixFilter d a → IsPrefixFilter d b → a ≡ b
one_prefix_filter d a b s t =
    let prefixes : a.prefix ≡ b.prefix = same_some (text_if_there (codes "prefix") d) a.prefix b.prefix s.prefix t.prefix in
    let asns : a.asn ≡ b.asn = same_some (number_if_there (codes "asn") d) a.asn b.asn s.asn t.asn in
    λ i. record { prefix = prefixes i; asn = asns i }

one_prefix_assertion : (d : Data) (a b : PrefixAssertionText) → IsPrefixAssertion d a → IsPrefixAssertion d b → a ≡ b
one_prefix_assertion d a b s t =
    let prefixes : a.prefix ≡ b.prefix = same_some (Some a.prefix) a.prefix b.prefix refl (same_some (text_if_there (codes "prefix") d) (Some a.prefix) (Some b.prefix) s.prefix t.prefix) in
    let asns : a.asn ≡ b.asn = same_some (Some a.asn) a.asn b.asn refl (same_some (number_if_there (codes "asn") d) (Some a.asn) (Some b.asn) s.asn t.asn) in
    let maxima : a.max ≡ b.max = same_some (number_if_there (codes "maxPrefixLength") d) a.max b.max s.max t.max in
    λ i. record { prefix = prefixes i; asn = asns i; max = maxima i }

one_filter_part : (version : Version) (d : Data) (xs ys : Filters) → IsFilterPart version d xs → IsFilterPart version d ys → xs ≡ ys
one_filter_part One d xs ys s t =
    let customers : xs.customers ≡ ys.customers = s.1 ∙ sym t.1 in
    let prefixes : xs.prefixes ≡ ys.prefixes = same_array IsPrefixFilter one_prefix_filter _ d xs.prefixes ys.prefixes s.2 t.2 in
    λ i. record { customers = customers i; prefixes = prefixes i }
one_filter_part Two d xs ys s t =
    let customers : xs.customers ≡ ys.customers = same_array IsFilter (λ x m n p q. same_some _ m n p.names q.names) _ d xs.customers ys.customers s.1 t.1 in
    let prefixes : xs.prefixes ≡ ys.prefixes = same_array IsPrefixFilter one_prefix_filter _ d xs.prefixes ys.prefixes s.2 t.2 in
    λ i. record { customers = customers i; prefixes = prefixes i }

one_assertion_part : (version : Version) (d : Data) (xs ys : Assertions) → IsAssertionPart version d xs → IsAssertionPart version d ys → xs ≡ ys
one_assertion_part One d xs ys s t =
    let attestations : xs.attestations ≡ ys.attestations = s.1 ∙ sym t.1 in
    let prefixes : xs.prefixes ≡ ys.prefixes = same_array IsPrefixAssertion one_prefix_assertion _ d xs.prefixes ys.prefixes s.2 t.2 in
    λ i. record { attestations = attestations i; prefixes = prefixes i }
one_assertion_part Two d xs ys s t =
    let attestations : xs.attestations ≡ ys.attestations = same_array IsAssertion one_assertion _ d xs.attestations ys.attestations s.1 t.1 in
    let prefixes : xs.prefixes ≡ ys.prefixes = same_array IsPrefixAssertion one_prefix_assertion _ d xs.prefixes ys.prefixes s.2 t.2 in
    λ i. record { attestations = attestations i; prefixes = prefixes i }

pub one_form : (version : Version) (tree : Data) (f g : Form) → IsFile version tree f → IsFile version tree g → f ≡ g
one_form version tree f g s t =
    let filters : f.filters ≡ g.filters = same_member (IsFilterPart version) (one_filter_part version) _ tree f.filters g.filters s.filters t.filters in
    let assertions : f.assertions ≡ g.assertions = same_member (IsAssertionPart version) (one_assertion_part version) _ tree f.assertions g.assertions s.assertions t.assertions in
    λ i. record { filters = filters i; assertions = assertions i }

pub one_asn : (n : Num) (x y : ℕ) → IsAsn n x → IsAsn n y → x ≡ y
one_asn n x y s t = let both : unsigned x ≡ unsigned y = sym s.0 ∙ t.0 in unsigned_injective x y both

one_attestation : (a : Assertion) (x y : Attestation) → Attests a x → Attests a y → x ≡ y
one_attestation a x y s t =
    let customers : x.customer ≡ y.customer = one_asn a.customer x.customer y.customer s.customer t.customer in
    let lists : x.providers ≡ y.providers = same_each IsAsn one_asn a.providers x.providers y.providers s.providers t.providers in
    λ i. record { customer = customers i; providers = lists i }

one_filters : (numbers : List Num) (xs ys : List ℕ) → AreFilters numbers xs → AreFilters numbers ys → xs ≡ ys
one_filters numbers xs ys s t =
    let same = same_each IsAsn one_asn numbers s.asns t.asns s.each t.each in
    one_set t.asns xs ys (subst (λ (list : List ℕ). IsSetOf list xs) same s.is_set) t.is_set

one_assertions : (assertions : List Assertion) (rows others : RowMap) → AreAssertions assertions rows
    → AreAssertions assertions others → rows ≡ others
one_assertions assertions rows others s t =
    let same = same_each Attests one_attestation assertions s.attestations t.attestations s.each t.each in
    one_union t.attestations rows others (subst (λ (list : List Attestation). AreUnited list rows) same s.united) t.united

-- ---- prefixes

pub one_prefix : (text : List ℕ) (p q : Subnet) → IsAnyPrefixText text p → IsAnyPrefixText text q → p ≡ q
one_prefix text p q s t =
    let parts = prefix_parts text p s in
    same_some (prefix_of p.addr p.len) p q (prefix_made text p.addr p.len p parts s).0 (prefix_made text p.addr p.len q parts t).0

one_prefix_if_there : (text : Option (List ℕ)) (p q : Option Subnet) → IsPrefixIfThere text p → IsPrefixIfThere text q → p ≡ q
one_prefix_if_there None None None s t = refl
one_prefix_if_there None (Some p) q s t = absurd s
one_prefix_if_there None None (Some q) s t = absurd t
one_prefix_if_there (Some text) None q s t = absurd s
one_prefix_if_there (Some text) (Some p) None s t = absurd t
one_prefix_if_there (Some text) (Some p) (Some q) s t = ap Some (one_prefix text p q s t)

one_asn_if_there : (n : Option Num) (x y : Option ℕ) → IsAsnIfThere n x → IsAsnIfThere n y → x ≡ y
one_asn_if_there None None None s t = refl
one_asn_if_there None (Some x) y s t = absurd s
one_asn_if_there None None (Some y) s t = absurd t
one_asn_if_there (Some n) None y s t = absurd s
one_asn_if_there (Some n) (Some x) None s t = absurd t
one_asn_if_there (Some n) (Some x) (Some y) s t = ap Some (one_asn n x y s t)

one_filter_of : (w : PrefixFilterText) (a b : PrefixFilter) → IsFilterOf w a → IsFilterOf w b → a ≡ b
one_filter_of w a b s t =
    let prefixes : a.prefix ≡ b.prefix = one_prefix_if_there w.prefix a.prefix b.prefix s.prefix t.prefix in
    let asns : a.asn ≡ b.asn = one_asn_if_there w.asn a.asn b.asn s.asn t.asn in
    λ i. record { prefix = prefixes i; asn = asns i }

pub one_max : (n : Option Num) (p : Subnet) (x y : ℕ) → IsMax n p x → IsMax n p y → x ≡ y
one_max None p x y s t = s ∙ sym t
one_max (Some n) p x y s t = unsigned_injective x y (sym s ∙ t)

one_payload_of : (w : PrefixAssertionText) (v u : Payload) → IsPayloadOf w v → IsPayloadOf w u → v ≡ u
one_payload_of w v u s t =
    let prefixes : v.prefix ≡ u.prefix = one_prefix w.prefix v.prefix u.prefix s.prefix t.prefix in
    let maxima : v.max ≡ u.max = one_max w.max u.prefix v.max u.max (subst (λ (p : Subnet). IsMax w.max p v.max) prefixes s.max) t.max in
    let asns : v.asn ≡ u.asn = one_asn w.asn v.asn u.asn s.asn t.asn in
    λ i. record { prefix = prefixes i; max = maxima i; asn = asns i }

abbrev set_of : List Payload → BTreeSet Payload
set_of payloads = record { keys = payloads }

pub one_payload_set : (written : List PrefixAssertionText) (a b : List Payload) → ArePrefixAssertions written a → ArePrefixAssertions written b → a ≡ b
one_payload_set written a b s t =
    let same : s.payloads ≡ t.payloads = same_each IsPayloadOf one_payload_of written s.payloads t.payloads s.each t.each in
    btree_set_from_contains payload_total (set_of a) (set_of b) s.in_order t.in_order (λ v. s.same v ∙ ap (λ (vs : List Payload). has vs v) same ∙ sym (t.same v)) payload_exact

pub one_content : (form : Form) (c d : Slurm) → IsContent form c → IsContent form d → c ≡ d
one_content form c d s t =
    let filters : c.filters ≡ d.filters = one_filters form.filters.customers c.filters d.filters s.filters t.filters in
    let assertions : c.assertions ≡ d.assertions = one_assertions form.assertions.attestations c.assertions d.assertions s.assertions t.assertions in
    let prefix_filters : c.prefix_filters ≡ d.prefix_filters = same_each IsFilterOf one_filter_of form.filters.prefixes c.prefix_filters d.prefix_filters s.prefix_filters t.prefix_filters in
    let prefix_assertions : c.prefix_assertions ≡ d.prefix_assertions = one_payload_set form.assertions.prefixes c.prefix_assertions d.prefix_assertions s.prefix_assertions t.prefix_assertions in
    λ i. record { filters = filters i; assertions = assertions i; prefix_filters = prefix_filters i; prefix_assertions = prefix_assertions i }
