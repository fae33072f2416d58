-- Files of payloads, one after another.
use Rattle.std.specs.Prelude.{◌≡◌, ◌≢◌, ℕ, ◌+◌, List, [], ◌∷◌, length}
use Rattle.std.specs.declared.result.Result.{Result}
use Rattle.std.specs.declared.result.Result.TheVariants.{Ok, Err}
use Rattle.path_model.specs.Rows.{RowMap}
use Rattle.der_reader.specs.Value.{Begins}
use Rattle.path_model.specs.Union.{Attestation}
use Rattle.aspa_payload.specs.Reading.{TakesPayload, IsRefused}
use Rattle.path_model.specs.Union.{AreUnited}
use Rattle.aspa_payload.specs.declared.fault.PayloadFault.{PayloadFault}
use Rattle.aspa_payload.specs.declared.fault.PayloadFault.TheVariants.{NoMemory}
use Rattle.aspa_payload.specs.declared.file.FileFault.{FileFault}
use Rattle.aspa_payload.specs.declared.file.FileFault.TheVariants.{Bad, NoMemory as OutOfMemory}

-- the bytes are these payloads, one after another, and then this rest
abbrev pub ArePayloads : List ℕ → List Attestation → List ℕ → Type 0
ArePayloads bytes [] rest = bytes ≡ rest
ArePayloads bytes (a ∷ more) rest = (after : List ℕ) × TakesPayload bytes a after × ArePayloads after more rest

-- the file is payloads to its end, and these rows are their union
pub record IsPayloadFile (bytes : List ℕ) (rows : RowMap) : Type 0 where
  pub attestations : List Attestation
  pub whole : ArePayloads bytes attestations []
  pub united : AreUnited attestations rows

-- Some payloads, and then bytes that are no payload by this rule. The unit is counted from 1.
pub record RefusedAt (bytes : List ℕ) (unit : ℕ) (cause : PayloadFault) : Type 0 where
  pub before : List Attestation
  pub rest : List ℕ
  pub good : ArePayloads bytes before rest
  pub some : rest ≢ []
  pub number : unit ≡ length before + 1
  pub refused : IsRefused (Begins 48 rest) cause

-- the reading of a file: the rows of a good one, or the first refused unit
abbrev pub IsFileReading : List ℕ → Result RowMap FileFault → Type 0
IsFileReading bytes (Ok rows) = IsPayloadFile bytes rows
IsFileReading bytes (Err (Bad unit cause)) = RefusedAt bytes unit cause
IsFileReading bytes (Err OutOfMemory) = ⊥

-- want of memory is free, and every other answer is the one that is due
abbrev pub FileAnswers : {A : Type 0} → (Result A FileFault → Type 0) → Result A FileFault → Type 0
FileAnswers Due (Ok read) = Due (Ok read)
FileAnswers Due (Err (Bad unit cause)) = Due (Err (Bad unit cause))
FileAnswers Due (Err OutOfMemory) = Unit {0}

-- how a refused unit refuses its file (of a private function)
abbrev pub IsOfUnit : ℕ → PayloadFault → FileFault → Type 0
IsOfUnit unit cause (Bad n c) = (n ≡ unit) × (c ≡ cause) × (cause ≢ NoMemory)
IsOfUnit unit cause OutOfMemory = cause ≡ NoMemory
