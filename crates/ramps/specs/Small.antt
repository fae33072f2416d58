-- Witnesses of paths of at most 65,535 ASes. Private contracts and the judgement's model alone cite it.
use Rattle.std.specs.Prelude.{ℕ, ◌<◌, ⊤}
use Rattle.std.specs.declared.option.Option.{Option}
use Rattle.std.specs.declared.option.Option.TheVariants.{Some, None}
use Rattle.path_model.specs.declared.witness.Witness.{Witness}
use Rattle.path_model.specs.declared.witness.Witness.TheVariants as any
use Rattle.ramps.specs.declared.small_witness.SmallWitness.{SmallWitness}
use Rattle.ramps.specs.declared.small_witness.SmallWitness.TheVariants as small

-- the number, if there is one, has room in 16 bits
abbrev pub IsSmall : Option ℕ → Type 0
IsSmall None = ⊤
IsSmall (Some n) = n < 65536

-- all numbers of a witness have
abbrev pub AreSmall : Witness → Type 0
AreSmall any.Empty = ⊤
AreSmall any.Set = ⊤
AreSmall any.Neighbour = ⊤
AreSmall (any.Valid c f d) = (c < 65536) × (f < 65536) × (d < 65536)
AreSmall (any.Blocked first last) = (first < 65536) × IsSmall last
AreSmall (any.Unsettled first last c f d) = (first < 65536) × IsSmall last × (c < 65536) × (f < 65536) × (d < 65536)

-- the witness itself
abbrev pub wide : SmallWitness → Witness
wide small.Empty = any.Empty
wide small.Set = any.Set
wide small.Neighbour = any.Neighbour
wide (small.Valid c f d) = any.Valid c f d
wide (small.Blocked first last) = any.Blocked first last
wide (small.Unsettled first last c f d) = any.Unsettled first last c f d
