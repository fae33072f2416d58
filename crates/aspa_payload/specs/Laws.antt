-- Laws of payload files, each the contract of a public function of the module `laws`.
use Rattle.std.specs.Prelude.{◌≡◌, ℕ, ◌<◌, ◌≤◌, ◌^◌, List, [], ◌++◌, length}
use Rattle.std.specs.List.{All}
use Rattle.av_base.specs.One.{HasOne}
use Rattle.der_reader.specs.Number.{IsBytes}
use Rattle.path_model.specs.Union.{Attestation}
use Rattle.aspa_payload.specs.Payload.{IsPayload}
use Rattle.aspa_payload.specs.Reading.{TakesPayload}
use Rattle.aspa_payload.specs.File.{IsFileReading}
use Rattle.aspa_payload.specs.Lines.{IsLinesReading}

-- bytes that are a payload are read as it again, whatever follows them
abbrev pub WrittenIsReadAgain : Type 0
WrittenIsReadAgain = (front : List ℕ) (a : Attestation) → TakesPayload front a [] → (rest : List ℕ) → TakesPayload (front ++ rest) a rest

-- bytes begin with the payload of at most one attestation, in one spelling
abbrev pub OnePayloadAtTheFront : Type 0
OnePayloadAtTheFront = (bytes : List ℕ) (a b : Attestation) (rest more : List ℕ) →
    TakesPayload bytes a rest → TakesPayload bytes b more → (a ≡ b) × (rest ≡ more)

-- bytes that are exactly this payload
pub record IsPayloadOf (a : Attestation) (spelling : List ℕ) : Type 0 where
  pub bytes : IsBytes spelling
  pub takes : TakesPayload spelling a []

-- an attestation that keeps the rules, of ASes of 32 bits and at most 500,000,000 providers (more might pass 4 GiB)
pub record IsWritable (a : Attestation) : Type 0 where
  pub customer : a.customer < 2 ^ 32
  pub providers : All (λ provider. provider < 2 ^ 32) a.providers
  pub few : length a.providers ≤ 500000000
  pub fit : IsPayload a

-- each attestation that can be written has exactly one payload
abbrev pub EachAttestationHasOnePayload : Type 0
EachAttestationHasOnePayload = (a : Attestation) → IsWritable a → HasOne (IsPayloadOf a)

-- any bytes are a good file of payloads with one union, or refused at one unit for one cause
abbrev pub EachFileHasOneReading : Type 0
EachFileHasOneReading = (bytes : List ℕ) → HasOne (IsFileReading bytes)

-- the same for a file of lines
abbrev pub EachFileOfLinesHasOneReading : Type 0
EachFileOfLinesHasOneReading = (bytes : List ℕ) → HasOne (IsLinesReading bytes)
