-- Rows of attestations: finite maps from customers to sets of providers.
use Rattle.std.specs.Prelude.{◌≡◌, ℕ, List, [], ◌++◌, Some, None}
use Rattle.std.specs.Ordering.{nat_cmp}
use Rattle.std.specs.FinMap as map
use Rattle.std.specs.List.Sorted.{IsStrictlyIncreasing}
use Rattle.std.specs.declared.option.Option.{Option}
use Rattle.path_model.specs.Sets.{IsSetOf}

-- from each customer that has one to its list of providers
abbrev pub RowMap : Type 0
RowMap = map.FinMap nat_cmp (List ℕ)

-- from each customer that is named to its list of providers, or to none
abbrev pub PatchMap : Type 0
PatchMap = map.FinMap nat_cmp (Option (List ℕ))

-- each row is a set
pub record HaveSets (rows : RowMap) : Type 0 where
  pub ascending : (customer : ℕ) (row : List ℕ) → map.get rows customer ≡ Some row → IsStrictlyIncreasing row

-- each row of a patch is a set
pub record PatchHasSets (patch : PatchMap) : Type 0 where
  pub ascending : (customer : ℕ) (row : List ℕ) → map.get patch customer ≡ Some (Some row) → IsStrictlyIncreasing row

-- what a customer had, or nothing
abbrev pub row_or_empty : Option (List ℕ) → List ℕ
row_or_empty None = []
row_or_empty (Some row) = row

-- a customer's row becomes the set of these numbers, and all others stay
pub record SetsRow (old : RowMap) (customer : ℕ) (providers : List ℕ) (new : RowMap) : Type 0 where
  pub row : List ℕ
  pub is_set : IsSetOf providers row
  pub whole : new ≡ map.insert old customer row

-- these providers are united with a customer's row, and all others stay
abbrev pub Unites : RowMap → ℕ → List ℕ → RowMap → Type 0
Unites old customer providers new = SetsRow old customer (row_or_empty (map.get old customer) ++ providers) new

-- what was gathered of a customer, and its row
abbrev pub IsRowOf : Option (List ℕ) → Option (List ℕ) → Type 0
IsRowOf None None = Unit {0}
IsRowOf None (Some row) = ⊥
IsRowOf (Some list) None = ⊥
IsRowOf (Some list) (Some row) = IsSetOf list row

-- each customer's row is the set of what was gathered of it
abbrev pub AreSetsOf : RowMap → RowMap → Type 0
AreSetsOf gathered rows = (customer : ℕ) → IsRowOf (map.get gathered customer) (map.get rows customer)

-- a patch names one more customer, or names it anew
pub record SetsPatch (old : PatchMap) (customer : ℕ) (given : Option (List ℕ)) (new : PatchMap) : Type 0 where
  pub row : Option (List ℕ)
  pub is_row : IsRowOf given row
  pub whole : new ≡ map.insert old customer row
