-- Spellings at the end of a list.
use Rattle.std.specs.Prelude.{◌≡◌, ℕ, List, [], ◌++◌}
use Rattle.der_reader.specs.Value.{IsLength, Spells}
use Rattle.der_reader.specs.Integer.{TakesInteger}

-- something was appended
pub record Appends (old new : List ℕ) : Type 0 where
  pub more : List ℕ
  pub whole : new ≡ old ++ more

-- a value was appended
pub record PutsValue (old new : List ℕ) (tag : ℕ) (content : List ℕ) : Type 0 where
  pub front : List ℕ
  pub spelled : Spells tag content front
  pub whole : new ≡ old ++ front

-- a length was appended
pub record PutsLength (old new : List ℕ) (n : ℕ) : Type 0 where
  pub octets : List ℕ
  pub length_is : IsLength n octets
  pub whole : new ≡ old ++ octets

-- an INTEGER was appended
pub record PutsInteger (old new : List ℕ) (n : ℕ) : Type 0 where
  pub front : List ℕ
  pub is : TakesInteger front n []
  pub whole : new ≡ old ++ front
