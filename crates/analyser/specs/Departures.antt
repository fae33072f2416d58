-- The ends of the sessions of all peers that have routes. Private contracts alone cite it.
use Rattle.std.specs.Prelude.{◌≡◌, List, map, All, Contains}
use Rattle.std.specs.FinMap as fin
use Rattle.std.specs.List.Sorted.{IsStrictlySortedBy}
use Rattle.std.specs.Option.{IsSome}
use Rattle.path_model.specs.declared.change.Change.{Change}
use Rattle.path_model.specs.declared.change.Change.TheVariants.{RemovePeer}
use Rattle.path_model.specs.declared.key.Key.{Key}
use Rattle.path_model.specs.declared.peer.Peer.{Peer}
use Rattle.path_model.specs.Key.{peer_cmp}
use Rattle.path_model.specs.Routes.{Routes}

-- some route is this peer's
abbrev pub HasRoute : Routes → Peer → Type 0
HasRoute routes peer = (key : Key) × (key.peer ≡ peer) × IsSome (fin.get routes key)

-- the session of each peer that has a route ends, each once, and no other one's
pub record AreDepartures (routes : Routes) (changes : List Change) : Type 0 where
  pub peers : List Peer
  pub ends : changes ≡ map RemovePeer peers
  pub ascending : IsStrictlySortedBy peer_cmp peers
  pub each : All (HasRoute routes) peers
  pub all : (key : Key) → IsSome (fin.get routes key) → Contains peers key.peer
