-- Labellings as the checker's code has them. Private contracts alone cite it.
use Rattle.std.specs.Prelude.{ℕ, List}
use Rattle.std.specs.declared.option.Option.{Option}
use Rattle.path_model.specs.declared.role.Direction.{Direction}
use Rattle.path_model.specs.Authority.{Table}
use Rattle.path_model.specs.Labelling.{DoesNotClimb, DoesNotDescend, MayClimb, MayDescend, Fits}
use Rattle.path_model.specs.Labelling.{Labelling as AnyLabelling}
use Rattle.path_model.specs.Witness.{labelling, IsHop, IsLaterHop}
use Rattle.witness_checker.specs.declared.fitting.Labelling.{Labelling}

-- the labelling of these numbers
abbrev pub as_labelling : Labelling → AnyLabelling
as_labelling l = labelling l.climbs l.free l.descents

-- so far hops block, and a labelling fits where silence counts as an attestation
abbrev pub IsUnsettled : Table → Direction → List ℕ → ℕ → Option ℕ → AnyLabelling → Type 0
IsUnsettled table direction chain first last l = IsHop chain (DoesNotClimb table chain) first
    × IsLaterHop direction chain (DoesNotDescend table chain) first last
    × Fits (MayClimb table chain) (MayDescend table chain) direction chain l
