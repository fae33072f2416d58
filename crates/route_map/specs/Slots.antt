-- The slots of peers: a list of peers, the map that finds a peer's place in it, and what belongs to each peer. Private contracts alone cite it.
use Rattle.std.specs.Prelude.{◌≡◌, ◌↔◌, ℕ, List, [], ◌∷◌, length, slice_get, slice_index_or}
use Rattle.std.specs.declared.option.Option.TheVariants.{Some}
use Rattle.std.specs.BTreeMap.{is_at}
use Rattle.std.specs.Map.{lookup}
use Rattle.path_model.specs.declared.peer.Peer.{Peer}
use Rattle.path_model.specs.Key.{peer_cmp}

-- the map has a peer at a slot exactly where the slot holds the peer
abbrev pub IsInverse : List (Peer × ℕ) → List Peer → Type 0
IsInverse order peers = (peer : Peer) (i : ℕ) → (lookup (is_at (peer_cmp peer)) order ≡ Some i) ↔ (slice_get peers i ≡ Some peer)

-- so it is, and something belongs to each of them
pub record AreSlots {X : Type 0} (order : List (Peer × ℕ)) (peers : List Peer) (slots : List X) : Type 0 where
  pub inverse : IsInverse order peers
  pub each : length slots ≡ length peers

-- what belongs to each peer, in the peers' order
abbrev pub resolved : {X : Type 0} → X → List (Peer × ℕ) → List X → List (Peer × X)
resolved d [] slots = []
resolved d (e ∷ es) slots = (e.0, slice_index_or slots e.1 d) ∷ resolved d es slots
