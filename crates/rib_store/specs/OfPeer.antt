-- The routes of one peer. Private contracts alone cite it.
use Rattle.std.specs.Prelude.{◌≡◌, true}
use Rattle.std.specs.Option.{IsSome}
use Rattle.std.specs.declared.option.Option.TheVariants.{None}
use Rattle.std.specs.FinMap as fin
use Rattle.path_model.specs.declared.key.Key.{Key}
use Rattle.path_model.specs.declared.peer.Peer.{Peer}
use Rattle.path_model.specs.Routes.{Routes, is_of_peer}

-- none of the peer's keys has a route
abbrev pub HasNoRouteOf : Routes → Peer → Type 0
HasNoRouteOf routes peer = (key : Key) → is_of_peer peer key ≡ true → fin.get routes key ≡ None

-- this key of the peer's has a route
pub record IsRouteOf (routes : Routes) (peer : Peer) (key : Key) : Type 0 where
  pub of_peer : is_of_peer peer key ≡ true
  pub route : IsSome (fin.get routes key)
