-- The text that lists the routes that meet some conditions, as they stand.
use Rattle.std.specs.Prelude.{◌≡◌, ℕ, Bool, List, filter}
use Rattle.path_model.specs.declared.key.Key.{Key}
use Rattle.conditions.specs.declared.asked.Conditions.{Conditions}
use Rattle.conditions.specs.Meets.{meets}
use Rattle.report_text.specs.Details.{detail_text}
use Rattle.rib_store.specs.Shown.{AreShown, Standing}
use Rattle.rib_store.specs.State.{State}

-- a route meets all conditions as it stands
abbrev pub is_asked : Conditions → Key × Standing → Bool
is_asked conditions row = meets conditions row.0 row.1.verdict row.1.path

-- those of some routes that do
abbrev pub asked_of : Conditions → List (Key × Standing) → List (Key × Standing)
asked_of conditions routes = filter (is_asked conditions) routes

-- each route that does, in key order, as it stands
pub record AreDetails (state : State) (conditions : Conditions) (rows : List (Key × Standing)) : Type 0 where
  pub all : List (Key × Standing)
  pub are : AreShown state all
  pub asked_for : rows ≡ asked_of conditions all

-- the line of a route
abbrev pub detail_row : Key × Standing → List ℕ
detail_row row = detail_text row.0 row.1.verdict row.1.witness row.1.path
