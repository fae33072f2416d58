-- Prefixes as bytes (RFC 4271, section 4.3; RFC 4760, section 5), with or without path identifiers (RFC 7911, section 3).
use Rattle.std.specs.Prelude.{◌≡◌, ℕ, ◌+◌, ◌/◌, ◌≤◌, Bool, true, false, ◌&&◌, nat_le, if◌then◌else◌, List, [], ◌∷◌, ◌++◌, length, take, drop, Some, None}
use Rattle.std.specs.declared.option.Option.{Option}
use Rattle.path_model.specs.declared.nlri.Nlri.{Nlri}
use Rattle.path_model.specs.Prefix.{Subnet, cleared}
use Rattle.bgp_attrs.specs.Fixed.{◌>>=◌, SpellsPath, addr_of, path_at}

-- how many bits an address of IPv6, or of IPv4, has
abbrev pub family_bits : Bool → ℕ
family_bits true = 128
family_bits false = 32

-- the fewest whole bytes that hold so many bits
abbrev pub bytes_for : ℕ → ℕ
bytes_for bits = (bits + 7) / 8

-- The bytes spell one prefix: its length in bits, and the fewest bytes that hold them. Bits behind the length have no meaning.
pub record IsPrefix (six : Bool) (bytes : List ℕ) (prefix : Subnet) : Type 0 where
  pub bits : List ℕ
  pub whole : bytes ≡ prefix.len ∷ bits
  pub within : prefix.len ≤ family_bits six
  pub fewest : length bits ≡ bytes_for prefix.len
  pub addr : prefix.addr ≡ cleared prefix.len (addr_of six bits)

-- The bytes spell a prefix, after its path identifier where the flag says that each prefix has one.
pub record IsNlri (add_path six : Bool) (bytes : List ℕ) (nlri : Nlri) : Type 0 where
  pub identifier : List ℕ
  pub behind : List ℕ
  pub path : SpellsPath add_path identifier nlri.path
  pub prefix : IsPrefix six behind nlri.prefix
  pub whole : bytes ≡ identifier ++ behind

-- ---- from the left: only private contracts, and the words for what an iterator has left, cite it

-- the first prefix and the bytes behind it
unfoldable pub prefix_at : Bool → List ℕ → Option (Subnet × List ℕ)
prefix_at six [] = None
prefix_at six (len ∷ rest) =
    if nat_le len (family_bits six) && nat_le (bytes_for len) (length rest)
    then Some (record { addr = cleared len (addr_of six (take (bytes_for len) rest)); len = len }, drop (bytes_for len) rest) else None

-- the first prefix, with its path identifier if each has one, and the bytes behind it
unfoldable pub nlri_at : Bool → Bool → List ℕ → Option (Nlri × List ℕ)
nlri_at add_path six bytes = do
  path ← path_at add_path bytes
  prefix ← prefix_at six path.1
  Some (record { prefix = prefix.0; path = path.0 }, prefix.1)
