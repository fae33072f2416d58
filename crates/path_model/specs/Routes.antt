-- Routes, and what changes make of them (RFC 4271, section 3.1: a route stays until it is withdrawn, replaced, or its peer's session ends).
use Rattle.std.specs.Prelude.{Bool, not, List, [], ◌∷◌}
use Rattle.std.specs.Ordering.{eq_by_cmp}
use Rattle.std.specs.FinMap as map
use Rattle.path_model.specs.declared.change.Change.{Change}
use Rattle.path_model.specs.declared.change.Change.TheVariants.{Remove, Announce, RemovePeer}
use Rattle.path_model.specs.declared.key.Key.{Key}
use Rattle.path_model.specs.declared.peer.Peer.{Peer}
use Rattle.path_model.specs.Key.{peer_cmp, key_cmp}
use Rattle.path_model.specs.Trail.{Path}

-- the path of each key that has a route
abbrev pub Routes : Type 0
Routes = map.FinMap key_cmp Path

-- whether the key is one of the peer's
abbrev pub is_of_peer : Peer → Key → Bool
is_of_peer peer key = eq_by_cmp peer_cmp peer key.peer

-- what one change makes of the routes
abbrev pub changed : Change → Routes → Routes
changed (Remove key) routes = map.remove routes key
changed (Announce key path) routes = map.insert routes key path
changed (RemovePeer peer) routes = map.retain_keys routes (λ key. not (is_of_peer peer key))

-- what a list of changes makes of them, from its first to its last
abbrev pub performed : List Change → Routes → Routes
performed [] routes = routes
performed (change ∷ more) routes = performed more (changed change routes)
