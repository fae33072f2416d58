-- OPEN messages (RFC 4271, sections 4.1 and 4.2), and the capabilities in them (RFC 5492, section 4).
use Rattle.std.specs.Prelude.{◌≡◌, ◌≢◌, ℕ, ◌⊎◌, List, [], ◌∷◌, ◌++◌, length}
use Rattle.bgp_attrs.specs.Joined.{IsJoined}
use Rattle.bgp_update.specs.Frames.{IsFramed}

-- what is read of an OPEN: how many bytes of optional parameters it says that it has, and the bytes that it has
pub record Open : Type 0 where
  pub count : ℕ
  pub parameters : List ℕ

-- The bytes are one OPEN: framed as a message of type 1; a byte of version, two of AS, two of hold time and four of identifier; a byte of
-- count; and optional parameters to the end. So there are at least 29 bytes.
pub record IsOpen (bytes : List ℕ) (it : Open) : Type 0 where
  pub fields : List ℕ
  pub nine : length fields ≡ 9
  pub framed : IsFramed bytes 1 (fields ++ (it.count ∷ it.parameters))

-- an optional parameter by its type, or a capability by its code, with its value
pub record Triple : Type 0 where
  pub code : ℕ
  pub value : List ℕ

-- the bytes spell one: a byte of type or code, a byte of length, and so many bytes of value
abbrev pub IsTriple : List ℕ → Triple → Type 0
IsTriple bytes triple = bytes ≡ triple.code ∷ (length triple.value ∷ triple.value)

-- an optional parameter of type 2 has the capabilities of which its value is joined, and another one has none
abbrev pub HasOwn : Triple → List Triple → Type 0
HasOwn parameter own = ((parameter.code ≡ 2) × IsJoined IsTriple parameter.value own) ⊎ ((parameter.code ≢ 2) × (own ≡ []))

-- optional parameters have the capabilities of the first one and of the others, in order
abbrev pub HaveTogether : List Triple → List Triple → Type 0
HaveTogether [] capabilities = capabilities ≡ []
HaveTogether (parameter ∷ parameters) capabilities =
    (own : List Triple) × (others : List Triple) × HasOwn parameter own × HaveTogether parameters others × (capabilities ≡ own ++ others)

-- Bytes are optional parameters, one after another, that have these capabilities.
pub record Carry (bytes : List ℕ) (capabilities : List Triple) : Type 0 where
  pub parameters : List Triple
  pub are : IsJoined IsTriple bytes parameters
  pub have : HaveTogether parameters capabilities

-- the OPEN is exactly of that form
abbrev pub IsInForm : Open → List Triple → Type 0
IsInForm it capabilities = (it.count ≡ length it.parameters) × Carry it.parameters capabilities

-- What capabilities an OPEN has: those that it is in form with; or it is with none, and has none at all.
abbrev pub HasCapabilities : Open → List Triple → Type 0
HasCapabilities it capabilities = IsInForm it capabilities ⊎ (((any : List Triple) → IsInForm it any → ⊥) × (capabilities ≡ []))
