-- The one spelling of a value (X.690, section 8.1): the tag, the length and the content.
use Rattle.std.specs.Prelude.{◌≡◌, ℕ, ◌+◌, ◌<◌, ◌≤◌, ◌⊎◌, List, [], ◌∷◌, ◌++◌, length, slice_index}
use Rattle.der_reader.specs.Number.{number}

-- bytes that are the number, with no zero at the front
pub record IsNumeral (digits : List ℕ) (n : ℕ) : Type 0 where
  pub value : number digits ≡ n
  pub leading : 0 < slice_index digits 0

-- a length in one to four bytes after a first one, which counts them
pub record IsLong (n : ℕ) (octets : List ℕ) : Type 0 where
  pub big : 128 ≤ n
  pub digits : List ℕ
  pub few : length digits ≤ 4
  pub numeral : IsNumeral digits n
  pub whole : octets ≡ (length digits + 128) ∷ digits

-- the shortest definite length (X.690, sections 8.1.3 and 10.1)
abbrev pub IsLength : ℕ → List ℕ → Type 0
IsLength n octets = ((n < 128) × (octets ≡ n ∷ [])) ⊎ IsLong n octets

-- the bytes are a value with this tag and this content
pub record Spells (tag : ℕ) (content bytes : List ℕ) : Type 0 where
  pub octets : List ℕ
  pub length_is : IsLength (length content) octets
  pub whole : bytes ≡ tag ∷ octets ++ content

-- the bytes begin with a value, and this is the rest
pub record Begins (tag : ℕ) (bytes content rest : List ℕ) : Type 0 where
  pub front : List ℕ
  pub spelled : Spells tag content front
  pub whole : bytes ≡ front ++ rest

-- no value with this tag stands at the front
abbrev pub BeginsNone : ℕ → List ℕ → Type 0
BeginsNone tag bytes = (content rest : List ℕ) → Begins tag bytes content rest → ⊥
