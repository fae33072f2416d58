-- Numbers as bytes, the first the highest.
use Rattle.std.specs.Prelude.{ℕ, ◌+◌, ◌*◌, ◌<◌, List, [], ◌∷◌, slice_index}

-- each member is a byte
abbrev pub IsBytes : List ℕ → Type 0
IsBytes bytes = (i : ℕ) → slice_index bytes i < 256

-- the number whose highest digits are n, and which goes on with these bytes
abbrev pub number_from : ℕ → List ℕ → ℕ
number_from n [] = n
number_from n (b ∷ bs) = number_from (n * 256 + b) bs

-- the number that bytes are
abbrev pub number : List ℕ → ℕ
number bytes = number_from 0 bytes
