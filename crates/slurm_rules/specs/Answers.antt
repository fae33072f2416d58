-- What a call answers.
use Rattle.std.specs.Prelude.{◌≡◌}
use Rattle.std.specs.declared.result.Result.{Result}
use Rattle.std.specs.declared.result.Result.TheVariants.{Ok, Err}
use Rattle.slurm_rules.specs.declared.slurm.Slurm.{Slurm}
use Rattle.slurm_rules.specs.declared.fault.SlurmFault.{SlurmFault}
use Rattle.slurm_rules.specs.declared.fault.SlurmFault.TheVariants.{Json, NoMemory}
use Rattle.json_fields.specs.declared.fault.JsonFault.{JsonFault}
use Rattle.json_fields.specs.declared.fault.JsonFault.TheVariants.{Json as NoJson, NoMemory as OutOfMemory}

-- want of memory, or this
abbrev pub MemoryOr : SlurmFault → Type 0 → Type 0
MemoryOr NoMemory due = Unit {0}
MemoryOr fault due = due

-- want of memory is free, and every other answer is the one that is due
abbrev pub Answers : (Result Slurm SlurmFault → Type 0) → Result Slurm SlurmFault → Type 0
Answers Due (Ok slurm) = Due (Ok slurm)
Answers Due (Err fault) = MemoryOr fault (Due (Err fault))

-- The words below are those of private functions.

-- the fault of a file of which nothing is read
abbrev pub of_json : JsonFault → SlurmFault
of_json NoJson = Json
of_json OutOfMemory = NoMemory

-- no memory, or this cause, as nothing is what was asked for
abbrev pub Misses : {A : Type 0} → SlurmFault → SlurmFault → (A → Type 0) → Type 0
Misses cause NoMemory P = Unit {0}
Misses cause fault P = (fault ≡ cause) × ((a : _) → P a → ⊥)

-- it has read what was asked for, or there is none
abbrev pub Reads : {X A : Type 0} → SlurmFault → (X → A) → Result X SlurmFault → (A → Type 0) → Type 0
Reads cause view (Ok x) P = P (view x)
Reads cause view (Err fault) P = Misses cause fault P

-- the same where it is seen as it is
abbrev pub Finds : {A : Type 0} → SlurmFault → Result A SlurmFault → (A → Type 0) → Type 0
Finds cause result P = Reads cause (λ x. x) result P
