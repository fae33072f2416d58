-- Numbers of two bytes, and blocks of bytes behind their length (RFC 4271, section 4.3).
use Rattle.std.specs.Prelude.{◌≡◌, ℕ, Bool, true, false, List, [], ◌∷◌, ◌++◌, length}
use Rattle.std.specs.declared.option.Option.{Option}
use Rattle.bgp_attrs.specs.Fixed.{◌>>=◌, SpellsTwo, byte_at, two_at, cut}

-- the bytes spell the length n: in two bytes, or in one
abbrev pub IsLength : Bool → List ℕ → ℕ → Type 0
IsLength true bytes n = SpellsTwo bytes n
IsLength false bytes n = bytes ≡ n ∷ []

-- two bytes of length, and so many bytes
pub record IsBlock (bytes block : List ℕ) : Type 0 where
  pub count : List ℕ
  pub counts : IsLength true count (length block)
  pub whole : bytes ≡ count ++ block

-- ---- from the left

-- the length, and the bytes behind it
abbrev pub length_at : Bool → List ℕ → Option (ℕ × List ℕ)
length_at true bytes = two_at bytes
length_at false bytes = byte_at bytes

-- the block, and the bytes behind it
unfoldable pub block_at : List ℕ → Option (List ℕ × List ℕ)
block_at bytes = do
  count ← two_at bytes
  cut count.0 count.1
