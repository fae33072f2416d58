-- The routes with the numbers of their cases.
use Rattle.std.specs.Prelude.{◌≡◌, ℕ, List, map, All, Some}
use Rattle.std.specs.FinMap as fin
use Rattle.path_model.specs.declared.key.Key.{Key}
use Rattle.path_model.specs.Trail.{Path}
use Rattle.shared_cases.specs.Cases.{Slots, at, IsStoredAs}
use Rattle.rib_store.specs.declared.numbered.NumberedRoutes.{NumberedRoutes}
use Rattle.rib_store.specs.State.{State}

-- the key has a route, and under the number stands the case of its peer's AS and its path
pub record IsNumberOf (state : State) (cases : Slots) (key : Key) (n : ℕ) : Type 0 where
  pub path : Path
  pub route : fin.get state.routes key ≡ Some path
  pub stored : IsStoredAs (at cases n) key.peer.asn path

-- each route's key in key order, with the number of its case
pub record AreNumbered (state : State) (cases : Slots) (routes : List (Key × ℕ)) : Type 0 where
  pub keys : map (λ e. e.0) routes ≡ fin.keys state.routes
  pub each : All (λ e. IsNumberOf state cases e.0 e.1) routes

-- what an iterator over them has left
abbrev pub numbered_left : NumberedRoutes → List (Key × ℕ)
numbered_left routes = routes.rest
