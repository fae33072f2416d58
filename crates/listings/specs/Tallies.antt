-- Routes that are counted by keys, such as valleys or ASes: how many have each key, and how many pairs of a peer AS and a path these are.
use Rattle.std.specs.Prelude.{◌≡◌, ◌<◌, ◌↔◌, ℕ, List, length, All, Contains, Some}
use Rattle.std.specs.FinMap as fin
use Rattle.std.specs.List.Sorted.{IsStrictlySortedBy}
use Rattle.std.specs.Map.{keys_of}
use Rattle.std.specs.declared.cmp.Ordering.{Ordering}
use Rattle.path_model.specs.declared.key.Key.{Key}
use Rattle.path_model.specs.Trail.{Path}
use Rattle.shared_cases.specs.Touched.{AreApart}
use Rattle.rib_store.specs.State.{State}
use Rattle.listings.specs.declared.tally.Tally.{Tally}

-- n is how many have the property: a list of n has exactly these, each once
pub record IsNumberOf {A : Type 0} (P : A → Type 0) (n : ℕ) : Type 0 where
  pub members : List A
  pub apart : AreApart members
  pub exact : (x : A) → Contains members x ↔ P x
  pub counted : n ≡ length members

-- ---- `Has` says which keys a path from an AS has

-- the route has the key, by the AS of its peer
pub record IsRouteWith {K : Type 0} (Has : K → ℕ → Path → Type 0) (state : State) (key : K) (route : Key) : Type 0 where
  pub path : Path
  pub is : fin.get state.routes route ≡ Some path
  pub has : Has key route.peer.asn path

-- some route from this AS with this path is so
pub record IsPairWith {K : Type 0} (Has : K → ℕ → Path → Type 0) (state : State) (key : K) (pair : ℕ × Path) : Type 0 where
  pub route : Key
  pub asn : route.peer.asn ≡ pair.0
  pub is : fin.get state.routes route ≡ Some pair.1
  pub has : Has key pair.0 pair.1

-- how many routes have the key, at least one, and how many pairs of a peer AS and a path these have
pub record IsTally {K : Type 0} (Has : K → ℕ → Path → Type 0) (state : State) (row : K × Tally) : Type 0 where
  pub some : 0 < row.1.routes
  pub routes : IsNumberOf (IsRouteWith Has state row.0) row.1.routes
  pub paths : IsNumberOf (IsPairWith Has state row.0) row.1.paths

-- each key that some route has, once, in ascending order, with its tally
pub record AreTallied {K : Type 0} (cmp : K → K → Ordering) (Has : K → ℕ → Path → Type 0) (state : State) (rows : List (K × Tally)) : Type 0 where
  pub ascending : IsStrictlySortedBy cmp (keys_of rows)
  pub each : All (IsTally Has state) rows
  pub all : (key : K) (route : Key) → IsRouteWith Has state key route → Contains (keys_of rows) key
