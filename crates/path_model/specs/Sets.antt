-- Sets of ASes as strictly ascending lists.
use Rattle.std.specs.Prelude.{ℕ, List}
use Rattle.std.specs.List.{Contains}
use Rattle.std.specs.List.Sorted.{IsStrictlyIncreasing}

-- the ascending list of a list's members
pub record IsSetOf (list set : List ℕ) : Type 0 where
  pub ascending : IsStrictlyIncreasing set
  pub within : (x : ℕ) → Contains set x → Contains list x
  pub all : (x : ℕ) → Contains list x → Contains set x
