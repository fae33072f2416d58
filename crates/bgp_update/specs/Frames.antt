-- The header of a BGP message (RFC 4271, section 4.1).
use Rattle.std.specs.Prelude.{◌≡◌, ℕ, true, List, ◌∷◌, ◌++◌, length, replicate}
use Rattle.bgp_attrs.specs.Blocks.{IsLength}

-- sixteen bytes of ones
abbrev pub marker : List ℕ
marker = replicate 16 255

-- The message is the marker, its own length in two bytes, its type, and the rest. So it has at least 19 bytes.
pub record IsFramed (message : List ℕ) (kind : ℕ) (rest : List ℕ) : Type 0 where
  pub count : List ℕ
  pub whole : message ≡ marker ++ (count ++ (kind ∷ rest))
  pub counts : IsLength true count (length message)

-- the header isn't in form
abbrev pub HasNoFrame : List ℕ → Type 0
HasNoFrame message = (kind : ℕ) (rest : List ℕ) → IsFramed message kind rest → ⊥
