-- An INTEGER from 0 to 4,294,967,295 (X.690, section 8.3): a value of tag 2 whose content is the shortest two's complement.
use Rattle.std.specs.Prelude.{◌≡◌, ℕ, ◌<◌, ◌≤◌, ◌^◌, List, [], ◌∷◌, slice_index}
use Rattle.der_reader.specs.Number.{number}
use Rattle.der_reader.specs.Value.{Begins}

-- There is a byte, and the first of two or more isn't needless: the first nine bits aren't all 0. (Were they all 1, the number
-- would be negative.)
abbrev pub IsShortest : List ℕ → Type 0
IsShortest [] = ⊥
IsShortest (b ∷ []) = Unit {0}
IsShortest (b ∷ c ∷ bs) = (b ≡ 0) → (128 ≤ c)

-- the content is the number n, which isn't negative and has 32 bits
pub record IsInteger (content : List ℕ) (n : ℕ) : Type 0 where
  pub shortest : IsShortest content
  pub positive : slice_index content 0 < 128
  pub value : number content ≡ n
  pub small : n < 2 ^ 32

-- the bytes begin with the INTEGER n, and this is the rest
pub record TakesInteger (bytes : List ℕ) (n : ℕ) (rest : List ℕ) : Type 0 where
  pub content : List ℕ
  pub begins : Begins 2 bytes content rest
  pub value : IsInteger content n

-- no INTEGER stands at the front
abbrev pub TakesNone : List ℕ → Type 0
TakesNone bytes = (n : ℕ) (rest : List ℕ) → TakesInteger bytes n rest → ⊥
