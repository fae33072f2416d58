-- A prefix of IPv4 as the bytes of its address and its length. Private contracts alone cite it.
use Rattle.std.specs.Prelude.{◌≡◌, ℕ, ◌<◌, List, length, slice_index_or}
use Rattle.std.specs.Int.{w32, from_be_bytes}
use Rattle.path_model.specs.declared.addr.Addr.TheVariants.{V4}
use Rattle.path_model.specs.Prefix.{Subnet, IsSubnet}

-- the prefix that they are: the first byte is the address's highest
abbrev pub packed_subnet : List ℕ → ℕ → Subnet
packed_subnet bytes len = record { addr = V4 (from_be_bytes w32 bytes); len = len }

-- these are four bytes, and with the length a prefix
pub record IsPacked (bytes : List ℕ) (len : ℕ) : Type 0 where
  pub four : length bytes ≡ 4
  pub small : (place : ℕ) → slice_index_or bytes place 0 < 256
  pub subnet : IsSubnet (packed_subnet bytes len)
