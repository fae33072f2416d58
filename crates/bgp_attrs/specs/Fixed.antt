-- Fields of fixed sizes: numbers of one, two or four bytes, ASes, path identifiers and addresses.
use Rattle.std.specs.Prelude.{◌≡◌, ℕ, ◌-◌, nat_lt, Bool, true, false, if◌then◌else◌, List, [], ◌∷◌, ◌++◌, length, take, drop, replicate, Some, None, option_and_then}
use Rattle.std.specs.declared.option.Option.{Option}
use Rattle.std.specs.Int.{w16, w32, w128, from_be_bytes}
use Rattle.path_model.specs.declared.addr.Addr.{Addr}
use Rattle.path_model.specs.declared.addr.Addr.TheVariants.{V4, V6}

-- the two bytes spell a number
abbrev pub SpellsTwo : List ℕ → ℕ → Type 0
SpellsTwo bytes n = (length bytes ≡ 2) × (from_be_bytes w16 bytes ≡ n)

-- the four bytes spell a number
abbrev pub SpellsFour : List ℕ → ℕ → Type 0
SpellsFour bytes n = (length bytes ≡ 4) × (from_be_bytes w32 bytes ≡ n)

-- the bytes spell an AS: in four bytes where the field is wide (RFC 6793), else in two
abbrev pub SpellsAsn : Bool → List ℕ → ℕ → Type 0
SpellsAsn true bytes asn = SpellsFour bytes asn
SpellsAsn false bytes asn = SpellsTwo bytes asn

-- how many bytes that are
abbrev pub as_width : Bool → ℕ
as_width true = 4
as_width false = 2

-- the bytes spell a path identifier in four bytes, which may be any number (RFC 7911, section 3); or there are none, and no identifier
abbrev pub SpellsPath : Bool → List ℕ → Option ℕ → Type 0
SpellsPath true bytes (Some identifier) = SpellsFour bytes identifier
SpellsPath true bytes None = ⊥
SpellsPath false bytes path = (bytes ≡ []) × (path ≡ None)

-- how many bytes an address of IPv6, or of IPv4, has
abbrev pub addr_size : Bool → ℕ
addr_size true = 16
addr_size false = 4

-- the bytes, and zeros up to so many bytes
abbrev pub padded : ℕ → List ℕ → List ℕ
padded n bytes = bytes ++ replicate (n - length bytes) 0

-- the address that begins with these bytes and goes on with zeros
abbrev pub addr_of : Bool → List ℕ → Addr
addr_of true bytes = V6 (from_be_bytes w128 (padded 16 bytes))
addr_of false bytes = V4 (from_be_bytes w32 (padded 4 bytes))

-- the bytes spell an address of IPv6, or of IPv4
abbrev pub SpellsAddr : Bool → List ℕ → Addr → Type 0
SpellsAddr six bytes addr = (length bytes ≡ addr_size six) × (addr_of six bytes ≡ addr)

-- ---- from the left: each reader gives the value and the bytes behind it, or None where it is cut; only the calls of `fixed`, private
-- contracts, and the words for what an iterator has left, cite it

-- one field, and then the next
infixl 10 ◌>>=◌
abbrev pub ◌>>=◌ : {A B : Type 0} → Option A → (A → Option B) → Option B
o >>= f = option_and_then f o

-- so many bytes
abbrev pub cut : ℕ → List ℕ → Option (List ℕ × List ℕ)
cut n bytes = if nat_lt (length bytes) n then None else Some (take n bytes, drop n bytes)

-- a number of one byte
abbrev pub byte_at : List ℕ → Option (ℕ × List ℕ)
byte_at (n ∷ rest) = Some (n, rest)
byte_at [] = None

-- a number of two bytes
unfoldable pub two_at : List ℕ → Option (ℕ × List ℕ)
two_at (a ∷ b ∷ rest) = Some (from_be_bytes w16 (a ∷ b ∷ []), rest)
two_at (a ∷ []) = None
two_at [] = None

-- a number of four bytes
unfoldable pub four_at : List ℕ → Option (ℕ × List ℕ)
four_at (a ∷ b ∷ c ∷ d ∷ rest) = Some (from_be_bytes w32 (a ∷ b ∷ c ∷ d ∷ []), rest)
four_at (a ∷ b ∷ c ∷ []) = None
four_at (a ∷ b ∷ []) = None
four_at (a ∷ []) = None
four_at [] = None

-- an AS: in four bytes, or in two
abbrev pub asn_at : Bool → List ℕ → Option (ℕ × List ℕ)
asn_at true bytes = four_at bytes
asn_at false bytes = two_at bytes

-- a path identifier, where there is to be one
abbrev pub path_at : Bool → List ℕ → Option (Option ℕ × List ℕ)
path_at false bytes = Some (None, bytes)
path_at true bytes = do
  identifier ← four_at bytes
  Some (Some identifier.0, identifier.1)

-- an address
unfoldable pub addr_at : Bool → List ℕ → Option (Addr × List ℕ)
addr_at six bytes = do
  part ← cut (addr_size six) bytes
  Some (addr_of six part.0, part.1)
