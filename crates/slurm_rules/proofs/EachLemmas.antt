-- What a part of a form doesn't have, the whole doesn't have.
use Rattle.slurm_rules.specs.Answers.{Misses}
use Rattle.slurm_rules.specs.declared.fault.SlurmFault.{SlurmFault}
use Rattle.slurm_rules.specs.declared.fault.SlurmFault.TheVariants.{Json, Version, Member, Number, PrefixText, NoMemory}

pub misses_by : {A B : Type 0} (cause : SlurmFault) (P : A → Type 0) (Q : B → Type 0) (fault : SlurmFault)
    → (((a : A) → P a → ⊥) → (b : B) → Q b → ⊥) → Misses cause fault P → Misses cause fault Q
misses_by cause P Q NoMemory f h = tt
misses_by cause P Q Member f h = (h.0, f h.1)
misses_by cause P Q Json f h = (h.0, f h.1)
misses_by cause P Q Version f h = (h.0, f h.1)
misses_by cause P Q Number f h = (h.0, f h.1)
misses_by cause P Q PrefixText f h = (h.0, f h.1)
