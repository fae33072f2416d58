-- The numbers and the prefixes of a form. A whole number is one that the tree holds as an integer, so `1.0` isn't one.
use Rattle.std.specs.Prelude.{◌≡◌, ℕ, ◌<◌, ◌^◌, Bool, true, false, List}
use Rattle.std.specs.List.Sorted.{IsStrictlySortedBy}
use Rattle.std.specs.declared.option.Option.{Option}
use Rattle.std.specs.declared.option.Option.TheVariants.{Some, None}
use Rattle.std.specs.declared.result.Result.{Result}
use Rattle.std.specs.declared.result.Result.TheVariants.{Ok, Err}
use Rattle.serde_json.specs.Data.{Num, unsigned}
use Rattle.path_model.specs.Sets.{IsSetOf}
use Rattle.path_model.specs.Rows.{RowMap}
use Rattle.path_model.specs.Union.{Attestation}
use Rattle.path_model.specs.Union.{AreUnited}
use Rattle.path_model.specs.Prefix.{Subnet}
use Rattle.origin_model.specs.declared.prefix_filter.PrefixFilter.{PrefixFilter}
use Rattle.origin_model.specs.Vrp.{Payload, IsPayload, payload_cmp}
use Rattle.origin_model.specs.VrpSet.{has}
use Rattle.any_prefix.specs.AnyPrefix.{IsAnyPrefixText}
use Rattle.json_fields.specs.Each.{Each}
use Rattle.slurm_rules.specs.Form.{Assertion, Form, PrefixAssertionText, PrefixFilterText}
use Rattle.slurm_rules.specs.declared.fault.SlurmFault.{SlurmFault}
use Rattle.slurm_rules.specs.declared.fault.SlurmFault.TheVariants.{Number as NoAsn, PrefixText, NoMemory}
use Rattle.slurm_rules.specs.declared.slurm.Slurm.{Slurm}
use Rattle.slurm_rules.specs.declared.numbers.Attested.{Attested}

-- an AS number is a whole number of 32 bits
abbrev pub IsAsn : Num → ℕ → Type 0
IsAsn n x = (n ≡ unsigned x) × (x < 2 ^ 32)

-- an assertion attests this
pub record Attests (assertion : Assertion) (attestation : Attestation) : Type 0 where
  pub customer : IsAsn assertion.customer attestation.customer
  pub providers : Each IsAsn assertion.providers attestation.providers

-- the ascending list of the customers that are filtered out
pub record AreFilters (numbers : List Num) (filters : List ℕ) : Type 0 where
  pub asns : List ℕ
  pub each : Each IsAsn numbers asns
  pub is_set : IsSetOf asns filters

-- the union per customer of what the assertions attest
pub record AreAssertions (assertions : List Assertion) (rows : RowMap) : Type 0 where
  pub attestations : List Attestation
  pub each : Each Attests assertions attestations
  pub united : AreUnited attestations rows

-- ---- prefixes

abbrev pub IsAsnIfThere : Option Num → Option ℕ → Type 0
IsAsnIfThere None None = Unit {0}
IsAsnIfThere None (Some x) = ⊥
IsAsnIfThere (Some n) None = ⊥
IsAsnIfThere (Some n) (Some x) = IsAsn n x

abbrev pub IsPrefixIfThere : Option (List ℕ) → Option Subnet → Type 0
IsPrefixIfThere None None = Unit {0}
IsPrefixIfThere None (Some prefix) = ⊥
IsPrefixIfThere (Some text) None = ⊥
IsPrefixIfThere (Some text) (Some prefix) = IsAnyPrefixText text prefix

-- a prefix filter has this prefix and this AS, each where it is written
pub record IsFilterOf (written : PrefixFilterText) (filter : PrefixFilter) : Type 0 where
  pub prefix : IsPrefixIfThere written.prefix filter.prefix
  pub asn : IsAsnIfThere written.asn filter.asn

-- the maximum is the whole number that is written, or the prefix's length where there is none
abbrev pub IsMax : Option Num → Subnet → ℕ → Type 0
IsMax None prefix max = max ≡ prefix.len
IsMax (Some n) prefix max = n ≡ unsigned max

-- A prefix assertion asserts this payload. Its maximum is from the prefix's length to 32 or 128, as every payload's.
pub record IsPayloadOf (written : PrefixAssertionText) (v : Payload) : Type 0 where
  pub prefix : IsAnyPrefixText written.prefix v.prefix
  pub max : IsMax written.max v.prefix v.max
  pub asn : IsAsn written.asn v.asn
  pub is_payload : IsPayload v

-- the set of the payloads that are asserted, in their order
pub record ArePrefixAssertions (written : List PrefixAssertionText) (set : List Payload) : Type 0 where
  pub payloads : List Payload
  pub each : Each IsPayloadOf written payloads
  pub in_order : IsStrictlySortedBy payload_cmp set
  pub same : (v : Payload) → has set v ≡ has payloads v

-- ---- the whole form

abbrev pub HasFilteredAsn : PrefixFilterText → Option ℕ → Type 0
HasFilteredAsn written asn = IsAsnIfThere written.asn asn

abbrev pub HasAssertedAsn : PrefixAssertionText → ℕ → Type 0
HasAssertedAsn written asn = IsAsn written.asn asn

-- a form of which all numbers that stand for ASes are AS numbers
pub record HasAsns (form : Form) : Type 0 where
  pub customers : List ℕ
  pub are_customers : Each IsAsn form.filters.customers customers
  pub attestations : List Attestation
  pub are_attested : Each Attests form.assertions.attestations attestations
  pub filtered : List (Option ℕ)
  pub are_filtered : Each HasFilteredAsn form.filters.prefixes filtered
  pub asserted : List ℕ
  pub are_asserted : Each HasAssertedAsn form.assertions.prefixes asserted

-- a form of which moreover all prefixes and maximum lengths are what they should be, and what it comes to
pub record IsContent (form : Form) (slurm : Slurm) : Type 0 where
  pub filters : AreFilters form.filters.customers slurm.filters
  pub assertions : AreAssertions form.assertions.attestations slurm.assertions
  pub prefix_filters : Each IsFilterOf form.filters.prefixes slurm.prefix_filters
  pub prefix_assertions : ArePrefixAssertions form.assertions.prefixes slurm.prefix_assertions

-- ---- of private functions

-- what a form comes to, or why to nothing
abbrev pub ContentIs : Form → Result Slurm SlurmFault → Type 0
ContentIs form (Ok slurm) = IsContent form slurm
ContentIs form (Err NoAsn) = HasAsns form → ⊥
ContentIs form (Err PrefixText) = HasAsns form × ((slurm : Slurm) → IsContent form slurm → ⊥)
ContentIs form (Err NoMemory) = Unit {0}
ContentIs form (Err fault) = ⊥

-- whether something is so of anything
abbrev pub IsOfAny : {A : Type 0} → Bool → (A → Type 0) → Type 0
IsOfAny {A = A} true P = (a : A) × P a
IsOfAny {A = A} false P = (a : A) → P a → ⊥

-- how the code's attestation is seen (of a private function)
abbrev pub attested_view : Attested → Attestation
attested_view a = record { customer = a.customer; providers = a.providers }
