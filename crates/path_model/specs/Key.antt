-- The keys of routes, and their order, in which routes are listed.
use Rattle.std.specs.Ordering.{nat_cmp, ordering_then}
use Rattle.std.specs.Option.{option_cmp}
use Rattle.std.specs.declared.cmp.Ordering.{Ordering}
use Rattle.path_model.specs.declared.key.Key.{Key}
use Rattle.path_model.specs.declared.nlri.Nlri.{Nlri}
use Rattle.path_model.specs.declared.peer.Peer.{Peer}
use Rattle.path_model.specs.Prefix.{addr_cmp, subnet_cmp}

-- the key of a peer's route
abbrev pub key_of : Peer → Nlri → Key
key_of peer nlri = record { peer = peer; prefix = nlri.prefix; path = nlri.path }

-- what its peer announced
abbrev pub nlri_of : Key → Nlri
nlri_of key = record { prefix = key.prefix; path = key.path }

-- by address and then by AS
abbrev pub peer_cmp : Peer → Peer → Ordering
peer_cmp a b = ordering_then (addr_cmp a.addr b.addr) (nat_cmp a.asn b.asn)

-- by prefix and then by path identifier, none first
abbrev pub nlri_cmp : Nlri → Nlri → Ordering
nlri_cmp a b = ordering_then (subnet_cmp a.prefix b.prefix) (option_cmp nat_cmp a.path b.path)

-- by peer, and then by what was announced
abbrev pub key_cmp : Key → Key → Ordering
key_cmp a b = ordering_then (peer_cmp a.peer b.peer) (nlri_cmp (nlri_of a) (nlri_of b))
