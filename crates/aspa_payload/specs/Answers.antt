-- What a call answers. Want of memory is free, and each other refusal is the one that is due.
use Rattle.std.specs.Prelude.{◌≡◌, List, ℕ}
use Rattle.std.specs.Borrow.{Bor}
use Rattle.std.specs.declared.option.Option.{Option}
use Rattle.std.specs.declared.result.Result.{Result}
use Rattle.std.specs.declared.result.Result.TheVariants.{Ok, Err}
use Rattle.der_reader.specs.Value.{Begins}
use Rattle.path_model.specs.Union.{Attestation}
use Rattle.aspa_payload.specs.Payload.{IsPayload, IsUnfit}
use Rattle.aspa_payload.specs.Reading.{TakesPayload, IsRefused, IsContentRefused}
use Rattle.aspa_payload.specs.Content.{TakesVersion, Says}
use Rattle.aspa_payload.specs.declared.fault.PayloadFault.{PayloadFault}
use Rattle.aspa_payload.specs.declared.fault.PayloadFault.TheVariants.{NotDer, NoMemory}

-- want of memory, or this
abbrev pub MemoryOr : PayloadFault → Type 0 → Type 0
MemoryOr NoMemory due = Unit {0}
MemoryOr fault due = due

-- want of memory, or the first rule that an attestation breaks
abbrev pub UnfitOrMemory : Attestation → PayloadFault → Type 0
UnfitOrMemory a fault = MemoryOr fault (IsUnfit a fault)

-- what was made is what is due, or the refusal is
abbrev pub Answers : {A : Type 0} → (Result A PayloadFault → Type 0) → Result A PayloadFault → Type 0
Answers Due (Ok a) = Due (Ok a)
Answers Due (Err fault) = MemoryOr fault (Due (Err fault))

-- The words below are those of private functions.

-- no memory, or this cause, as nothing is what was asked for
abbrev pub Misses : {A : Type 0} → PayloadFault → PayloadFault → (A → Type 0) → Type 0
Misses cause NoMemory P = Unit {0}
Misses cause fault P = (fault ≡ cause) × ((a : _) → P a → ⊥)

-- it has read what was asked for, or there is none
abbrev pub Reads : {X A : Type 0} → PayloadFault → (X → A) → Result X PayloadFault → (A → Type 0) → Type 0
Reads cause view (Ok x) P = P (view x)
Reads cause view (Err fault) P = Misses cause fault P

-- it has taken the version, if there is one, or none stands there
abbrev pub ReadsVersion : List ℕ → Result (Option ℕ × Bor (List ℕ)) PayloadFault → Type 0
ReadsVersion content result =
    Reads {A = Option ℕ × List ℕ} NotDer (λ taken. (taken.0, taken.1.now)) result (λ taken. TakesVersion content taken.0 taken.1)

-- what a content says, or why it says nothing
abbrev pub IsContentReading : List ℕ → Result Attestation PayloadFault → Type 0
IsContentReading content (Ok a) = Says content a × IsPayload a
IsContentReading content (Err fault) = IsContentRefused content fault

-- the payload at the front, or why there is none
abbrev pub AnswersUnit : List ℕ → Result (Attestation × Bor (List ℕ)) PayloadFault → Type 0
AnswersUnit bytes (Ok taken) = TakesPayload bytes taken.0 taken.1.now
AnswersUnit bytes (Err fault) = MemoryOr fault (IsRefused (Begins 48 bytes) fault)
