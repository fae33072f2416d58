-- The witness that ramps give. Private contracts of the crate `ramps` and proofs alone cite it.
use Rattle.std.specs.Prelude.{ℕ, ◌-◌, min, nat_lt, if◌then◌else◌}
use Rattle.std.specs.declared.option.Option.{Option}
use Rattle.std.specs.declared.option.Option.TheVariants.{Some, None}
use Rattle.path_model.specs.declared.role.Direction.{Direction}
use Rattle.path_model.specs.declared.role.Direction.TheVariants.{Up, Down}
use Rattle.path_model.specs.declared.witness.Witness.{Witness}
use Rattle.path_model.specs.declared.witness.Witness.TheVariants.{Valid as ByLabelling, Blocked, Unsettled}
use Rattle.path_model.specs.Labelling.{Labelling}
use Rattle.path_model.specs.Ramps.{Ramps, reach}

-- downstream the hop at which a down-ramp stops, and upstream none
abbrev pub last_by : Direction → ℕ → ℕ → Option ℕ
last_by Up n down = None
last_by Down n down = Some (n - down)

-- the labelling that climbs as far as an up-ramp, and then has one free hop if a hop is left
abbrev pub climb_of : ℕ → ℕ → Labelling
climb_of n up = record { climbs = up - 1; free = min (n - up) 1; descents = n - up - min (n - up) 1 }

-- these are the climbs, free hops and descents of a labelling
abbrev pub valid_by : Labelling → Witness
valid_by l = ByLabelling l.climbs l.free l.descents

-- the same behind the hops that don't settle the verdict
abbrev pub unsettled_by : ℕ → Option ℕ → Labelling → Witness
unsettled_by first last l = Unsettled first last l.climbs l.free l.descents

-- the witness that the ramps of n ASes give, by the two tests that give the verdict
abbrev pub witness_by_ramps : Direction → ℕ → Ramps → Witness
witness_by_ramps direction n ramps =
    if nat_lt (reach direction ramps.maximal_up ramps.maximal_down) n
    then Blocked ramps.maximal_up (last_by direction n ramps.maximal_down)
    else if nat_lt (reach direction ramps.minimal_up ramps.minimal_down) n
    then unsettled_by ramps.minimal_up (last_by direction n ramps.minimal_down) (climb_of n ramps.maximal_up)
    else valid_by (climb_of n ramps.minimal_up)
