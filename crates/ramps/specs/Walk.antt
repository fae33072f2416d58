-- A walk along a chain from one of its ends, and the ramps that it finds. Private contracts alone cite it.
use Rattle.std.specs.Prelude.{ℕ, ◌+◌, ◌-◌, ◌<◌, ◌≤◌, ◌⊎◌, List, length}
use Rattle.path_model.specs.declared.authority.Authority.{Authority}
use Rattle.path_model.specs.Authority.{Table}
use Rattle.path_model.specs.Labelling.{upward, downward, RefusesToClimb, RefusesToDescend, DoesNotClimb, DoesNotDescend}
use Rattle.path_model.specs.Ramps.{IsUpRamp, IsDownRamp, Ramps as FourRamps}
use Rattle.ramps.specs.declared.walk.Ramps.{Ramps}
use Rattle.ramps.specs.declared.walk.End.{End}
use Rattle.ramps.specs.declared.walk.End.TheVariants.{Origin, Neighbour}

-- what is said at the step j, counted from 0: up the hop at place j from the origin, or back along that from the neighbour
abbrev pub said : End → Table → List ℕ → ℕ → Authority
said Origin table chain j = upward table chain j
said Neighbour table chain j = downward table chain (length chain - 2 - j)

-- the minimal ramp isn't above the maximal one, and both count from one AS to all of them
pub record AreOrdered (n : ℕ) (ramps : Ramps) : Type 0 where
  pub some : 0 < ramps.minimal
  pub ordered : ramps.minimal ≤ ramps.maximal
  pub within : ramps.maximal ≤ n

-- the up-ramps of a chain
pub record AreUpRamps (table : Table) (chain : List ℕ) (ramps : Ramps) : Type 0 where
  pub maximal : IsUpRamp chain (RefusesToClimb table chain) ramps.maximal
  pub minimal : IsUpRamp chain (DoesNotClimb table chain) ramps.minimal

-- A down-ramp counts beside an up-ramp of n ASes if it is the real one, or if it and each real one reach all n ASes together with the up-ramp.
abbrev pub CountsBeside : ℕ → ℕ → (ℕ → Type 0) → ℕ → Type 0
CountsBeside n up IsReal down = IsReal down ⊎ ((n ≤ up + down) × ((real : ℕ) → IsReal real → n ≤ up + real))

-- the down-ramps of a chain so far as they count beside its up-ramps
pub record CountBeside (table : Table) (chain : List ℕ) (up down : Ramps) : Type 0 where
  pub maximal : CountsBeside (length chain) up.maximal (IsDownRamp chain (RefusesToDescend table chain)) down.maximal
  pub minimal : CountsBeside (length chain) up.minimal (IsDownRamp chain (DoesNotDescend table chain)) down.minimal

-- the up-ramps and the down-ramps together
abbrev pub joined : Ramps → Ramps → FourRamps
joined up down = record { maximal_up = up.maximal; minimal_up = up.minimal; maximal_down = down.maximal; minimal_down = down.minimal }
