-- The body of a RIB_IPV4_UNICAST or RIB_IPV6_UNICAST record (RFC 6396, section 4.3.2 and 4.3.4), or of one with path identifiers (RFC 8050,
-- section 4).
use Rattle.std.specs.Prelude.{◌≡◌, ℕ, Bool, List, ◌++◌, length}
use Rattle.std.specs.declared.option.Option.{Option}
use Rattle.std.specs.Int.{w16, from_be_bytes}
use Rattle.path_model.specs.Prefix.{Subnet}
use Rattle.bgp_attrs.specs.Blocks.{IsBlock}
use Rattle.held_bytes.specs.Units.{Begins}
use Rattle.bgp_attrs.specs.Joined.{IsJoined}
use Rattle.bgp_attrs.specs.Prefixes.{IsPrefix}
use Rattle.bgp_attrs.specs.Fixed.{SpellsTwo, SpellsPath}

-- a peer's index, and the path identifier, if there is one, and the attributes of its route
pub record Entry : Type 0 where
  pub index : ℕ
  pub path : Option ℕ
  pub attributes : List ℕ

-- The bytes spell one entry: two bytes of index, four of time, where `add_path` four of path identifier, the attributes behind their
-- length.
pub record IsEntry (add_path : Bool) (bytes : List ℕ) (entry : Entry) : Type 0 where
  pub index : List ℕ
  pub time : List ℕ
  pub identifier : List ℕ
  pub block : List ℕ
  pub is_index : SpellsTwo index entry.index
  pub four : length time ≡ 4
  pub is_path : SpellsPath add_path identifier entry.path
  pub is_block : IsBlock block entry.attributes
  pub whole : bytes ≡ index ++ (time ++ (identifier ++ block))

-- a prefix and the routes to it
pub record Rib : Type 0 where
  pub prefix : Subnet
  pub entries : List Entry

-- Two bytes of count, and so many entries to the end.
pub record IsCounted (add_path : Bool) (bytes : List ℕ) (entries : List Entry) : Type 0 where
  pub count : List ℕ
  pub behind : List ℕ
  pub two : length count ≡ 2
  pub counts : from_be_bytes w16 count ≡ length entries
  pub whole : bytes ≡ count ++ behind
  pub are_entries : IsJoined (IsEntry add_path) behind entries

-- The body: four bytes of sequence, the prefix, the entries.
pub record IsRib (add_path six : Bool) (body : List ℕ) (rib : Rib) : Type 0 where
  pub sequence : List ℕ
  pub behind : List ℕ
  pub counted : List ℕ
  pub four : length sequence ≡ 4
  pub whole : body ≡ sequence ++ behind
  pub prefix : Begins (IsPrefix six) behind rib.prefix counted
  pub entries : IsCounted add_path counted rib.entries
