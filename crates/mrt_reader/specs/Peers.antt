-- The body of a PEER_INDEX_TABLE (RFC 6396, section 4.3.1).
use Rattle.std.specs.Prelude.{◌≡◌, ℕ, ◌==◌, not, bit_and, Bool, List, ◌∷◌, ◌++◌, length}
use Rattle.path_model.specs.declared.peer.Peer.{Peer}
use Rattle.bgp_attrs.specs.Blocks.{IsBlock}
use Rattle.bgp_attrs.specs.Joined.{IsJoined}
use Rattle.bgp_attrs.specs.Fixed.{SpellsTwo, SpellsAsn, SpellsAddr}

-- the bits of a peer's kind: an address of IPv6, an AS of four bytes; other bits have no meaning
abbrev pub is_six : ℕ → Bool
is_six kind = not (bit_and kind 1 == 0)

abbrev pub is_wide : ℕ → Bool
is_wide kind = not (bit_and kind 2 == 0)

-- The bytes spell one peer: its kind, four bytes of identifier, its address and its AS, both as the kind says.
pub record IsPeer (bytes : List ℕ) (peer : Peer) : Type 0 where
  pub kind : ℕ
  pub identifier : List ℕ
  pub addr : List ℕ
  pub asn : List ℕ
  pub four : length identifier ≡ 4
  pub is_addr : SpellsAddr (is_six kind) addr peer.addr
  pub is_asn : SpellsAsn (is_wide kind) asn peer.asn
  pub whole : bytes ≡ kind ∷ (identifier ++ (addr ++ asn))

-- The body: four bytes of collector, the name of the view behind its length, two bytes of count, and so many peers to the end.
pub record IsPeerTable (body : List ℕ) (peers : List Peer) : Type 0 where
  pub collector : List ℕ
  pub name : List ℕ
  pub view : List ℕ
  pub count : List ℕ
  pub behind : List ℕ
  pub four : length collector ≡ 4
  pub is_name : IsBlock name view
  pub counts : SpellsTwo count (length peers)
  pub are_peers : IsJoined IsPeer behind peers
  pub whole : body ≡ collector ++ (name ++ (count ++ behind))
