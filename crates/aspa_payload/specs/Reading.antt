-- Which bytes are a payload, and the first rule by which others aren't.
use Rattle.std.specs.Prelude.{◌≡◌, ◌≢◌, ℕ, List, []}
use Rattle.std.specs.declared.option.Option.TheVariants.{Some}
use Rattle.std.specs.declared.result.Result.{Result}
use Rattle.std.specs.declared.result.Result.TheVariants.{Ok, Err}
use Rattle.der_reader.specs.Value.{Begins}
use Rattle.aspa_payload.specs.Content.{IsContent, Says}
use Rattle.path_model.specs.Union.{Attestation}
use Rattle.aspa_payload.specs.Payload.{IsPayload, IsUnfit}
use Rattle.aspa_payload.specs.declared.content.Parts.{Parts}
use Rattle.aspa_payload.specs.declared.fault.PayloadFault.{PayloadFault}
use Rattle.aspa_payload.specs.declared.fault.PayloadFault.TheVariants.{NotDer, Version, Base64, Moment, NoMemory}

-- the bytes begin with the payload of this attestation, a value of tag 30, and this is the rest
pub record TakesPayload (bytes : List ℕ) (a : Attestation) (rest : List ℕ) : Type 0 where
  pub content : List ℕ
  pub begins : Begins 48 bytes content rest
  pub says : Says content a
  pub fit : IsPayload a

-- an attestation that this content makes breaks a rule
abbrev pub SaysUnfit : List ℕ → PayloadFault → Type 0
SaysUnfit content fault = (a : Attestation) × Says content a × IsUnfit a fault

-- the first rule that the content breaks
abbrev pub IsContentRefused : List ℕ → PayloadFault → Type 0
IsContentRefused content NotDer = (parts : Parts) → IsContent content parts → ⊥
IsContentRefused content Version = (parts : Parts) × IsContent content parts × (parts.version ≢ Some 1)
IsContentRefused content NoMemory = ⊥
IsContentRefused content Base64 = ⊥
IsContentRefused content Moment = ⊥
IsContentRefused content fault = SaysUnfit content fault

-- The first rule that some bytes break. `Outer` says which content they have, and which rest.
abbrev pub IsRefused : (List ℕ → List ℕ → Type 0) → PayloadFault → Type 0
IsRefused Outer NotDer = (content rest : List ℕ) → Outer content rest → (parts : Parts) → IsContent content parts → ⊥
IsRefused Outer fault = (content : List ℕ) × ((rest : List ℕ) × Outer content rest × IsContentRefused content fault)

-- the bytes are one value of tag 30, and nothing follows it
abbrev pub IsWhole : List ℕ → List ℕ → List ℕ → Type 0
IsWhole bytes content rest = Begins 48 bytes content rest × (rest ≡ [])

-- the reading of bytes that are to be exactly one payload
abbrev pub IsReading : List ℕ → Result Attestation PayloadFault → Type 0
IsReading bytes (Ok a) = TakesPayload bytes a []
IsReading bytes (Err fault) = IsRefused (IsWhole bytes) fault
