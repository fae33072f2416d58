-- Which peers hold a number. An invariant and private contracts alone cite it.
use Rattle.std.specs.Prelude.{◌≡◌, ◌↔◌, ℕ, nat_eq, Bool, true, false, ◌&&◌, List}
use Rattle.std.specs.declared.cmp.Ordering.{Ordering}
use Rattle.std.specs.BTreeMap.{is_at}
use Rattle.std.specs.List.{list_any}
use Rattle.std.specs.Ordering.{nat_cmp, ordering_then}
use Rattle.path_model.specs.declared.addr.Addr.{Addr}
use Rattle.path_model.specs.declared.nlri.Nlri.{Nlri}
use Rattle.path_model.specs.declared.peer.Peer.{Peer}
use Rattle.path_model.specs.Key.{peer_cmp, key_of}
use Rattle.path_model.specs.Prefix.{addr_cmp}
use Rattle.route_map.specs.Keys.{Entries, has}

-- a number, and behind it a peer by its AS and its address
abbrev pub Holder : Type 0
Holder = ℕ × ℕ × Addr

abbrev pub holder_of : Peer → ℕ → Holder
holder_of peer n = (n, peer.asn, peer.addr)

abbrev pub holder_cmp : Holder → Holder → Ordering
holder_cmp a b = ordering_then (ordering_then (nat_cmp a.0 b.0) (nat_cmp a.1 b.1)) (addr_cmp a.2 b.2)

-- the peer is a holder of the number
abbrev pub is_holder : List Holder → Peer → ℕ → Bool
is_holder holders peer n = list_any (is_at (holder_cmp (holder_of peer n))) holders

-- a route of the peer has the number
abbrev pub HasNumber : Entries → Peer → ℕ → Type 0
HasNumber index peer n = (s : Nlri) × (has index n (key_of peer s) ≡ true)

-- the holders of each number are the peers with a route that has it
abbrev pub AreHolders : Entries → List Holder → Type 0
AreHolders index holders = (p : Peer) (n : ℕ) → (is_holder holders p n ≡ true) ↔ HasNumber index p n

-- they are this peer and this number
abbrev pub is_this : Peer → ℕ → Peer → ℕ → Bool
is_this peer number p n = nat_eq number n && is_at (peer_cmp peer) p

-- the same, but the peer may be a holder of the number without need
pub record AreHoldersBut (index : Entries) (holders : List Holder) (peer : Peer) (number : ℕ) : Type 0 where
  pub here : HasNumber index peer number → is_holder holders peer number ≡ true
  pub others : (p : Peer) (n : ℕ) → is_this peer number p n ≡ false → (is_holder holders p n ≡ true) ↔ HasNumber index p n
