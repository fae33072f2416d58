-- Valleys: a hop that refuses to climb, and the next one that refuses at all refuses to descend. Some AS between the two passed the path on to
-- a provider or peer without having it from a customer. Hops are counted as in witnesses: hop i joins the ASes at the places i - 1 and i.
use Rattle.std.specs.Prelude.{◌≡◌, ℕ, ◌-◌, ◌<◌, List, length, slice_index, slice_get, ◌⊎◌}
use Rattle.path_model.specs.declared.role.Direction.{Direction}
use Rattle.path_model.specs.declared.role.Direction.TheVariants.{Up, Down}
use Rattle.path_model.specs.Authority.{Table}
use Rattle.path_model.specs.Labelling.{RefusesToClimb, RefusesToDescend}
use Rattle.path_model.specs.Witness.{IsHop}
use Rattle.valleys.specs.declared.valley.Valley.{Valley}

-- hop j of the chain refuses to descend; upstream the export to us counts as the hop behind the chain's last one, and refuses
abbrev pub EndsDescent : Table → Direction → List ℕ → ℕ → Type 0
EndsDescent table Down chain j = IsHop chain (RefusesToDescend table chain) j
EndsDescent table Up chain j = IsHop chain (RefusesToDescend table chain) j ⊎ (j ≡ length chain)

-- hop i refuses to climb, and no hop between i and j refuses to climb or to descend
pub record IsOpenUntil (table : Table) (chain : List ℕ) (i j : ℕ) : Type 0 where
  pub before : i < j
  pub opens : IsHop chain (RefusesToClimb table chain) i
  pub no_climb : (k : ℕ) → i < k → k < j → ¬ IsHop chain (RefusesToClimb table chain) k
  pub no_descent : (k : ℕ) → i < k → k < j → ¬ IsHop chain (RefusesToDescend table chain) k

-- a valley: hop i refuses to climb, hop j behind it refuses to descend, and no hop between them refuses either
pub record IsValley (table : Table) (direction : Direction) (chain : List ℕ) (i j : ℕ) : Type 0 where
  pub opened : IsOpenUntil table chain i j
  pub ends : EndsDescent table direction chain j

-- the ASes of two hops; behind the export to us there is none
abbrev pub ases_of : List ℕ → ℕ → ℕ → Valley
ases_of chain i j = record {
  from = slice_index chain (i - 1);
  first = slice_index chain i;
  last = slice_index chain (j - 1);
  to = slice_get chain j;
}

-- some valley of the chain has these ASes
pub record HasValley (table : Table) (direction : Direction) (chain : List ℕ) (valley : Valley) : Type 0 where
  pub i : ℕ
  pub j : ℕ
  pub is : IsValley table direction chain i j
  pub ases : valley ≡ ases_of chain i j
