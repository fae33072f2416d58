-- Hops that go on and hops that stop. Private contracts alone cite it.
use Rattle.std.specs.Prelude.{◌≡◌, ℕ, ◌+◌, ◌<◌, List, length, slice_index}
use Rattle.std.specs.declared.option.Option.{Option}
use Rattle.std.specs.declared.option.Option.TheVariants.{Some, None}
use Rattle.path_model.specs.Authority.{Table}
use Rattle.path_model.specs.Labelling.{upward, downward}
use Rattle.witness_checker.specs.declared.silence.Silence.{Silence}
use Rattle.witness_checker.specs.Silence.{GoesOn, Stops}

-- the hop at place k climbs
abbrev pub GoesUp : Silence → Table → List ℕ → ℕ → Type 0
GoesUp silence table chain k = GoesOn silence (upward table chain k)

-- it descends
abbrev pub GoesDown : Silence → Table → List ℕ → ℕ → Type 0
GoesDown silence table chain k = GoesOn silence (downward table chain k)

-- it doesn't climb
abbrev pub StopsClimb : Silence → Table → List ℕ → ℕ → Type 0
StopsClimb silence table chain k = Stops silence (upward table chain k)

-- it doesn't descend
abbrev pub StopsDescent : Silence → Table → List ℕ → ℕ → Type 0
StopsDescent silence table chain k = Stops silence (downward table chain k)

-- the lower and the upper AS of a hop that is counted from 1, or None where it is no hop
abbrev pub IsJoined : List ℕ → ℕ → Option (ℕ × ℕ) → Type 0
IsJoined chain hop None = (place : ℕ) → hop ≡ place + 1 → hop < length chain → ⊥
IsJoined chain hop (Some ases) = (place : ℕ) × (hop ≡ place + 1) × (hop < length chain)
    × (ases.0 ≡ slice_index chain place) × (ases.1 ≡ slice_index chain (place + 1))
