-- The routes with their paths, and what an iterator over them has left.
use Rattle.std.specs.Prelude.{ℕ, List}
use Rattle.std.specs.declared.option.Option.{Option}
use Rattle.std.specs.List.{filter_map}
use Rattle.std.specs.Option.{option_map}
use Rattle.path_model.specs.declared.key.Key.{Key}
use Rattle.path_model.specs.Trail.{Path}
use Rattle.shared_cases.specs.Cases.{Slots, at}
use Rattle.rib_store.specs.declared.trails.Trails.{Trails}

-- a key with the path of its case
abbrev pub trail_at : Slots → Key × ℕ → Option (Key × Path)
trail_at cases e = option_map (λ c. (e.0, c.trail)) (at cases e.1)

-- each key with the path of its case
abbrev pub trails_left : Trails → List (Key × Path)
trails_left trails = filter_map (trail_at trails.cases.now) trails.rest
