-- What a call answers.
use Rattle.std.specs.Prelude.{◌≡◌}
use Rattle.std.specs.declared.result.Result.{Result}
use Rattle.std.specs.declared.result.Result.TheVariants.{Ok, Err}
use Rattle.json_fields.specs.declared.fault.JsonFault.{JsonFault}
use Rattle.json_fields.specs.declared.fault.JsonFault.TheVariants.{Json as NoJson, NoMemory as OutOfMemory}
use Rattle.validated.specs.declared.fault.ValidatedFault.{ValidatedFault}
use Rattle.validated.specs.declared.fault.ValidatedFault.TheVariants.{Json, Prefix, NoMemory}
use Rattle.slurm_rules.specs.declared.fault.SlurmFault.{SlurmFault}
use Rattle.slurm_rules.specs.declared.fault.SlurmFault.TheVariants.{NoMemory as SlurmMemory}
use Rattle.validated.specs.declared.validated_file.Validated.{Validated}

-- want of memory, or this
abbrev pub MemoryOr : ValidatedFault → Type 0 → Type 0
MemoryOr NoMemory due = Unit {0}
MemoryOr fault due = due

-- want of memory is free, and every other answer is the one that is due
abbrev pub Answers : (Result Validated ValidatedFault → Type 0) → Result Validated ValidatedFault → Type 0
Answers Due (Ok validated) = Due (Ok validated)
Answers Due (Err fault) = MemoryOr fault (Due (Err fault))

-- The words below are those of private functions.

-- the fault of a file of which nothing is read
abbrev pub of_json : JsonFault → ValidatedFault
of_json NoJson = Json
of_json OutOfMemory = NoMemory

-- the fault of records whose prefix assertions are refused
abbrev pub of_slurm : SlurmFault → ValidatedFault
of_slurm SlurmMemory = NoMemory
of_slurm fault = Prefix

-- no memory, or this cause, as nothing is what was asked for
abbrev pub Misses : {A : Type 0} → ValidatedFault → ValidatedFault → (A → Type 0) → Type 0
Misses cause NoMemory P = Unit {0}
Misses cause fault P = (fault ≡ cause) × ((a : _) → P a → ⊥)

-- it has read what was asked for, or there is none
abbrev pub Reads : {X A : Type 0} → ValidatedFault → (X → A) → Result X ValidatedFault → (A → Type 0) → Type 0
Reads cause view (Ok x) P = P (view x)
Reads cause view (Err fault) P = Misses cause fault P

-- the same where it is seen as it is
abbrev pub Finds : {A : Type 0} → ValidatedFault → Result A ValidatedFault → (A → Type 0) → Type 0
Finds cause result P = Reads cause (λ x. x) result P
