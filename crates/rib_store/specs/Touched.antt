-- How many judgements an event may cost.
use Rattle.std.specs.Prelude.{◌≡◌, ◌+◌, ◌≤◌, ℕ, List, [], ◌∷◌, length, All, Contains, Some}
use Rattle.std.specs.FinMap as fin
use Rattle.path_model.specs.declared.change.Change.{Change}
use Rattle.path_model.specs.declared.change.Change.TheVariants.{Remove, Announce, RemovePeer}
use Rattle.path_model.specs.declared.key.Key.{Key}
use Rattle.path_model.specs.Routes.{Routes}
use Rattle.path_model.specs.Trail.{Path}
use Rattle.shared_cases.specs.Grounds.{Grounds}
use Rattle.rib_store.specs.Grounds.{grounds}
use Rattle.shared_cases.specs.Touched.{IsTouched, AreApart}
use Rattle.rib_store.specs.State.{State}

-- by which table and roles the routes of a state are judged
abbrev pub grounds_of : State → Grounds
grounds_of state = grounds state.parts state.roles

-- A route from this peer AS has this path, and another table or other roles touch it: the role of the AS is another one, or what one of
-- two neighbours in the path attests of the other.
pub record IsTouchedRoute (old new : Grounds) (routes : Routes) (pair : ℕ × Path) : Type 0 where
  pub key : Key
  pub asn : key.peer.asn ≡ pair.0
  pub route : fin.get routes key ≡ Some pair.1
  pub touched : IsTouched old new pair

-- no more than there are distinct pairs of a peer AS and a path of touched routes
pub record IsWithinTouched (old new : State) (ticks : ℕ) : Type 0 where
  pub pairs : List (ℕ × Path)
  pub apart : AreApart pairs
  pub each : All (IsTouchedRoute (grounds_of old) (grounds_of new) old.routes) pairs
  pub within : ticks ≤ length pairs

-- how many distinct pairs of a peer AS and a path of touched routes there are
pub record IsTouchedNumber (old new : State) (number : ℕ) : Type 0 where
  pub pairs : List (ℕ × Path)
  pub apart : AreApart pairs
  pub each : All (IsTouchedRoute (grounds_of old) (grounds_of new) old.routes) pairs
  pub all : (pair : ℕ × Path) → IsTouchedRoute (grounds_of old) (grounds_of new) old.routes pair → Contains pairs pair
  pub number_is : number ≡ length pairs

-- how many routes a list of changes announces
abbrev pub announces : Change → ℕ
announces (Remove key) = 0
announces (Announce key path) = 1
announces (RemovePeer peer) = 0

abbrev pub announced : List Change → ℕ
announced [] = 0
announced (change ∷ more) = announces change + announced more
