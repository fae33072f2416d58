-- The routes as they stand, and what an iterator over them has left.
use Rattle.std.specs.Prelude.{ℕ, List}
use Rattle.std.specs.declared.option.Option.{Option}
use Rattle.std.specs.List.{filter_map}
use Rattle.std.specs.Option.{option_map}
use Rattle.path_model.specs.declared.key.Key.{Key}
use Rattle.path_model.specs.Roles.{Relations, role_of}
use Rattle.path_model.specs.Trail.{Path}
use Rattle.ramps.specs.Judgement.{Judgement}
use Rattle.shared_cases.specs.Cases.{Slots, at}
use Rattle.rib_store.specs.declared.shown_rows.ShownRows.{ShownRows}
use Rattle.rib_store.specs.Shown.{Standing, standing_in}

-- a path from an AS, as it is judged
abbrev pub standing_by : Relations → ℕ → Path → Judgement → Standing
standing_by relations asn path judged = standing_in (role_of relations asn) path judged

-- a key with its route as it stands by its case
abbrev pub shown_at : Slots → Relations → Key × ℕ → Option (Key × Standing)
shown_at cases relations e =
    option_map (λ c. (e.0, standing_by relations e.0.peer.asn c.trail c.judged)) (at cases e.1)

-- each key with its route as it stands by its case
abbrev pub shown_left : ShownRows → List (Key × Standing)
shown_left rows = filter_map (shown_at rows.cases.now rows.roles.now) rows.rest
