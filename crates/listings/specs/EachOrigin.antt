-- The routes that were listed before others; private contracts alone cite it.
use Rattle.std.specs.Prelude.{◌≡◌, ℕ, List, [], ◌∷◌, ◌++◌, flat_map}
use Rattle.std.specs.Io.KnownBytes.{append_known}
use Rattle.std.specs.declared.option.Option.{Option}
use Rattle.std.specs.declared.option.Option.TheVariants.{None, Some}
use Rattle.path_model.specs.declared.key.Key.{Key}
use Rattle.path_model.specs.Trail.{Path}
use Rattle.origin_model.specs.declared.origin_state.OriginState.{OriginState}
use Rattle.origin_model.specs.Current.{Parts}
use Rattle.origin_model.specs.OriginState.{origin_of}
use Rattle.origin_validation.specs.Rows.{AreRowsOf}
use Rattle.listings.specs.Origins.{origin_row}

-- one line for each row
abbrev pub origins_text : List (Key × OriginState) → List ℕ
origins_text rows = flat_map origin_row rows

-- the lines of these routes but for the rest were added; `all` is what was written and then what is held
pub record ListsBefore (parts : Parts) (routes rest : List (Key × Path)) (all_old all_new : Option (List ℕ)) : Type 0 where
  pub listed : List (Key × Path)
  pub whole : routes ≡ listed ++ rest
  pub rows : List (Key × OriginState)
  pub are : AreRowsOf parts listed rows
  pub added : all_new ≡ append_known all_old (origins_text rows)

-- those of the first of them were, perhaps of none and perhaps of all
pub record ListsFirst (parts : Parts) (routes : List (Key × Path)) (all_old all_new : Option (List ℕ)) : Type 0 where
  pub rest : List (Key × Path)
  pub before : ListsBefore parts routes rest all_old all_new

-- those before a route were, which is told by its key and its origin; `left` are the routes behind it
pub record ListsUpToOne (next : Key × Option ℕ) (parts : Parts) (routes left : List (Key × Path)) (all_old all_new : Option (List ℕ)) : Type 0 where
  pub path : Path
  pub origin : next.1 ≡ origin_of path
  pub before : ListsBefore parts routes ((next.0, path) ∷ left) all_old all_new

-- those before the route that is told were, or those of all where none is
abbrev pub ListsUpTo : Option (Key × Option ℕ) → Parts → List (Key × Path) → List (Key × Path) → Option (List ℕ) → Option (List ℕ) → Type 0
ListsUpTo None parts routes left all_old all_new = ListsBefore parts routes [] all_old all_new
ListsUpTo (Some next) parts routes left all_old all_new = ListsUpToOne next parts routes left all_old all_new
