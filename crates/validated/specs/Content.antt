-- What a form comes to.
use Rattle.std.specs.Prelude.{◌≡◌, ℕ, List, option_map}
use Rattle.std.specs.declared.option.Option.{Option}
use Rattle.std.specs.declared.option.Option.TheVariants.{Some}
use Rattle.std.specs.declared.result.Result.{Result}
use Rattle.std.specs.declared.result.Result.TheVariants.{Ok, Err}
use Rattle.serde_json.specs.Data.{unsigned}
use Rattle.path_model.specs.Sets.{IsSetOf}
use Rattle.attestations.specs.Terms.{TermMap}
use Rattle.origin_model.specs.Vrp.{Payload}
use Rattle.aspa_payload.specs.Lines.{AreAttested}
use Rattle.aspa_payload.specs.declared.line.Dated.{Dated}
use Rattle.json_fields.specs.Each.{Each, IfThere}
use Rattle.slurm_rules.specs.Form.{PrefixAssertionText}
use Rattle.slurm_rules.specs.Numbers.{ArePrefixAssertions}
use Rattle.validated.specs.Form.{Aspa, Form, Roa}
use Rattle.validated.specs.declared.content.Attested.{Attested}
use Rattle.validated.specs.declared.fault.ValidatedFault.{ValidatedFault}
use Rattle.validated.specs.declared.fault.ValidatedFault.TheVariants.{Number, Prefix, NoMemory}
use Rattle.validated.specs.declared.validated_file.Validated.{Validated}

-- this number is written
abbrev pub IsNumber : Option ℕ → ℕ → Type 0
IsNumber numeral x = numeral ≡ Some x

-- this end is written, or none is, and then there is none
abbrev pub IsEnd : Option (Option ℕ) → Option ℕ → Type 0
IsEnd expires until = expires ≡ option_map Some until

-- an element of `aspas` attests this of its customer, up to its end. It may name no provider, and its providers come in any order.
pub record Attests (aspa : Aspa) (unit : Dated) : Type 0 where
  pub customer : IsNumber aspa.customer unit.payload.customer
  pub asns : List ℕ
  pub written : Each IsNumber aspa.providers asns
  pub providers : IsSetOf asns unit.payload.providers
  pub until : IsEnd aspa.expires unit.until

-- an element of `roas` is this, as a prefix assertion of a SLURM file (RFC 8416, section 3.4.1); its end isn't looked at
pub record Asserts (roa : Roa) (assertion : PrefixAssertionText) : Type 0 where
  pub asn : ℕ
  pub written : IsNumber roa.asn asn
  pub number : assertion.asn ≡ unsigned asn
  pub prefix : assertion.prefix ≡ roa.prefix
  pub max : assertion.max ≡ roa.max
  pub until : Option ℕ
  pub ends : IsEnd roa.expires until

-- a form all of whose numerals are numbers
pub record HasNumbers (form : Form) : Type 0 where
  pub units : List Dated
  pub attest : Each Attests form.aspas units
  pub assertions : Option (List PrefixAssertionText)
  pub assert_ : IfThere (Each Asserts) form.roas assertions

-- exactly the attestations of these elements
pub record AreAttestations (aspas : List Aspa) (terms : TermMap) : Type 0 where
  pub units : List Dated
  pub each : Each Attests aspas units
  pub attested : AreAttested units terms

-- the set of the payloads of these elements, in their order
pub record ArePayloads (roas : List Roa) (set : List Payload) : Type 0 where
  pub assertions : List PrefixAssertionText
  pub each : Each Asserts roas assertions
  pub asserted : ArePrefixAssertions assertions set

-- what a form comes to
pub record IsContent (form : Form) (validated : Validated) : Type 0 where
  pub attestations : AreAttestations form.aspas validated.attestations
  pub payloads : IfThere ArePayloads form.roas validated.payloads

-- ---- of private functions

-- what a form comes to, or why to nothing
abbrev pub ContentIs : Form → Result Validated ValidatedFault → Type 0
ContentIs form (Ok validated) = IsContent form validated
ContentIs form (Err Number) = HasNumbers form → ⊥
ContentIs form (Err Prefix) = HasNumbers form × ((validated : Validated) → IsContent form validated → ⊥)
ContentIs form (Err NoMemory) = Unit {0}
ContentIs form (Err fault) = ⊥

-- what an array of records comes to, or why to nothing
abbrev pub PayloadsAre : List Roa → Result (List Payload) ValidatedFault → Type 0
PayloadsAre roas (Ok payloads) = ArePayloads roas payloads
PayloadsAre roas (Err Number) = (as_ : List PrefixAssertionText) → Each Asserts roas as_ → ⊥
PayloadsAre roas (Err Prefix) = ((as_ : List PrefixAssertionText) × Each Asserts roas as_) × ((set : List Payload) → ArePayloads roas set → ⊥)
PayloadsAre roas (Err NoMemory) = Unit {0}
PayloadsAre roas (Err fault) = ⊥

-- the same where there may be none
abbrev pub RecordsAre : Option (List Roa) → Result (Option (List Payload)) ValidatedFault → Type 0
RecordsAre roas (Ok payloads) = IfThere ArePayloads roas payloads
RecordsAre roas (Err Number) = (as_ : Option (List PrefixAssertionText)) → IfThere (Each Asserts) roas as_ → ⊥
RecordsAre roas (Err Prefix) =
    ((as_ : Option (List PrefixAssertionText)) × IfThere (Each Asserts) roas as_)
    × ((payloads : Option (List Payload)) → IfThere ArePayloads roas payloads → ⊥)
RecordsAre roas (Err NoMemory) = Unit {0}
RecordsAre roas (Err fault) = ⊥

-- how the code's attestation is seen
abbrev pub attested_view : Attested → Dated
attested_view a = record { payload = record { customer = a.customer; providers = a.providers }; until = a.until }
