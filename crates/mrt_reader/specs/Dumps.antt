-- The body of a TABLE_DUMP record: one route (RFC 6396, section 4.2).
use Rattle.std.specs.Prelude.{◌≡◌, ℕ, Bool, false, List, ◌∷◌, ◌++◌, length, Some}
use Rattle.path_model.specs.declared.addr.Addr.{Addr}
use Rattle.path_model.specs.declared.peer.Peer.{Peer}
use Rattle.path_model.specs.Prefix.{Subnet, prefix_of}
use Rattle.bgp_attrs.specs.Blocks.{IsBlock}
use Rattle.bgp_attrs.specs.Fixed.{SpellsAsn, SpellsAddr}

-- a route as it is recorded
pub record Dumped : Type 0 where
  pub prefix : Subnet
  pub peer : Peer
  pub attributes : List ℕ

-- The body: two bytes of view and two of sequence, the prefix's address and its length, a byte of status and four of time, the peer's
-- address and its AS of two bytes, and the attributes behind their length.
pub record IsTableDump (six : Bool) (body : List ℕ) (dumped : Dumped) : Type 0 where
  pub sequence : List ℕ
  pub addr : List ℕ
  pub len : ℕ
  pub time : List ℕ
  pub peer_addr : List ℕ
  pub peer_asn : List ℕ
  pub block : List ℕ
  pub four : length sequence ≡ 4
  pub prefix_addr : Addr
  pub is_addr : SpellsAddr six addr prefix_addr
  pub is_prefix : prefix_of prefix_addr len ≡ Some dumped.prefix
  pub five : length time ≡ 5
  pub is_peer_addr : SpellsAddr six peer_addr dumped.peer.addr
  pub is_peer_asn : SpellsAsn false peer_asn dumped.peer.asn
  pub is_block : IsBlock block dumped.attributes
  pub whole : body ≡ sequence ++ (addr ++ (len ∷ (time ++ (peer_addr ++ (peer_asn ++ block)))))
