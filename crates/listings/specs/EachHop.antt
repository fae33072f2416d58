-- What the step of a hop adds; private contracts alone cite it.
use Rattle.std.specs.Prelude.{ℕ, ◌+◌, ◌-◌, List, length, map}
use Rattle.std.specs.List.{range_with_len}
use Rattle.path_model.specs.Authority.{Table}
use Rattle.listings.specs.Hops.{hop_at, hop_row}

-- the lines of the hops from the one that begins at this place on
abbrev pub pieces_from : Table → List ℕ → ℕ → List (List ℕ)
pieces_from table chain place = map hop_row (map (hop_at table chain) (range_with_len place (length chain - (place + 1))))
