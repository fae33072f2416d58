-- Laws of valleys, each the contract of a public function of the module `laws`.
use Rattle.std.specs.Prelude.{◌≡◌, ℕ, ◌-◌, ◌<◌, List, length, slice_index}
use Rattle.std.specs.declared.option.Option.{Option}
use Rattle.path_model.specs.declared.role.Role.{Role}
use Rattle.path_model.specs.declared.role.Direction.{Direction}
use Rattle.path_model.specs.declared.verdict.Verdict.{Verdict}
use Rattle.path_model.specs.declared.witness.Witness.TheVariants.{Blocked}
use Rattle.path_model.specs.Authority.{Table}
use Rattle.path_model.specs.Labelling.{IsValid, RefusesToClimb, direction_of}
use Rattle.path_model.specs.PrintedWitness.{IsPrinted}
use Rattle.path_model.specs.Trail.{Path}
use Rattle.path_model.specs.Witness.{IsHop}
use Rattle.valleys.specs.declared.valley.Valley.{Valley}
use Rattle.valleys.specs.Valleys.{EndsDescent, HasValley, IsValley}

-- each path whose printed witness is `Blocked` has a valley
abbrev pub BlockedPathsHaveValleys : Type 0
BlockedPathsHaveValleys = (table : Table) (role : Role) (neighbour : ℕ) (path : Path) (verdict : Verdict) (first : ℕ) (last : Option ℕ)
    → IsPrinted table role neighbour path verdict (Blocked first last)
    → (valley : Valley) × HasValley table (direction_of role) path.chain valley

-- hop i refuses to climb by the other table too, and hop j to descend
pub record RefuseToo (other : Table) (direction : Direction) (chain : List ℕ) (i j : ℕ) : Type 0 where
  pub climb : IsHop chain (RefusesToClimb other chain) i
  pub descent : EndsDescent other direction chain j

-- the rows of the two ASes that refuse stand in the other table: that of the lower AS of hop i, and that of the upper AS of hop j
pub record RowsStand (table other : Table) (chain : List ℕ) (i j : ℕ) : Type 0 where
  pub lower : other (slice_index chain (i - 1)) ≡ table (slice_index chain (i - 1))
  pub upper : j < length chain → other (slice_index chain j) ≡ table (slice_index chain j)

-- no table by which the two hops refuse makes the path valid, and so none in which the two rows stand
pub record MakesInvalid (table : Table) (direction : Direction) (chain : List ℕ) (i j : ℕ) : Type 0 where
  pub by_refusals : (other : Table) → RefuseToo other direction chain i j → ¬ IsValid other direction chain
  pub by_rows : (other : Table) → RowsStand table other chain i j → ¬ IsValid other direction chain

-- the two hops of a valley alone make the path invalid, whatever the other ASes attest
abbrev pub ValleysMakeInvalid : Type 0
ValleysMakeInvalid = (table : Table) (direction : Direction) (chain : List ℕ) (i j : ℕ) → IsValley table direction chain i j
    → MakesInvalid table direction chain i j
