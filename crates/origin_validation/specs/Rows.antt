-- The rows that list the state of each route.
use Rattle.std.specs.Prelude.{◌≡◌, List}
use Rattle.std.specs.FinMap as fin
use Rattle.std.specs.List.{AllZip}
use Rattle.path_model.specs.declared.key.Key.{Key}
use Rattle.path_model.specs.Routes.{Routes}
use Rattle.path_model.specs.Trail.{Path}
use Rattle.origin_model.specs.declared.origin_state.OriginState.{OriginState}
use Rattle.origin_model.specs.Current.{Parts}
use Rattle.origin_model.specs.OriginState.{IsStateOf}

-- the row of a key with its path: the key, and the state by the current payloads
pub record IsRow (parts : Parts) (route : Key × Path) (row : Key × OriginState) : Type 0 where
  pub key : row.0 ≡ route.0
  pub state : IsStateOf parts route.0 route.1 row.1

-- one row for each of these routes, in their order
abbrev pub AreRowsOf : Parts → List (Key × Path) → List (Key × OriginState) → Type 0
AreRowsOf parts routes rows = AllZip (IsRow parts) routes rows

-- one row for each route, in key order, with its state by the current payloads
abbrev pub AreOriginRows : Routes → Parts → List (Key × OriginState) → Type 0
AreOriginRows routes parts rows = AreRowsOf parts (fin.entries routes) rows
