-- A current table, computed: what a type that keeps the table cites as its rows. That it is the current table is a law (`CurrentTable`).
use Rattle.std.specs.Prelude.{ℕ, nat_eq, Bool, true, false, not, List, [], ◌∷◌, ◌++◌, filter}
use Rattle.std.specs.declared.option.Option.{Option}
use Rattle.std.specs.declared.option.Option.TheVariants.{Some, None}
use Rattle.std.specs.FinMap as map
use Rattle.path_model.specs.Ascending.{ascending_of}
use Rattle.path_model.specs.Authority.{Table, has}
use Rattle.attestations.specs.Terms.{TermMap, alive_of}
use Rattle.attestations.specs.CurrentTable.{Parts, IsCurrentTable}

-- a row before others, if there is one
abbrev pub onto : Option (List ℕ) → List (List ℕ) → List (List ℕ)
onto None rows = rows
onto (Some row) rows = row ∷ rows

-- the rows of the alive attestations that the sources have of a customer
abbrev pub attested : ℕ → List (List ℕ × TermMap) → ℕ → List (List ℕ)
attested moment [] x = []
attested moment (s ∷ ss) x = alive_of moment (map.get s.1 x) ++ attested moment ss x

-- none of them, where either filter has the customer
abbrev pub unfiltered : Bool → Bool → List (List ℕ) → List (List ℕ)
unfiltered true other rows = []
unfiltered false true rows = []
unfiltered false false rows = rows

abbrev pub sourced : Parts → ℕ → List (List ℕ)
sourced parts x = unfiltered (has parts.slurm_filters x) (has parts.filters x) (attested parts.moment parts.sources x)

-- all rows that go in
abbrev pub given : Parts → ℕ → List (List ℕ)
given parts x = onto (map.get parts.slurm_assertions x) (onto (map.get parts.assertions x) (sourced parts x))

abbrev pub joined : List (List ℕ) → List ℕ
joined [] = []
joined (r ∷ rs) = r ++ joined rs

-- the union of rows, less 0
abbrev pub union_of : List (List ℕ) → List ℕ
union_of rows = ascending_of (filter (λ y. not (nat_eq y 0)) (joined rows))

-- no rows make none
abbrev pub row_made : List (List ℕ) → Option (List ℕ)
row_made [] = None
row_made (r ∷ rs) = Some (union_of (r ∷ rs))

abbrev pub table_of : Parts → Table
table_of parts x = row_made (given parts x)

-- the computed table is the current one
abbrev pub ComputedIsCurrent : Type 0
ComputedIsCurrent = (parts : Parts) → IsCurrentTable parts (table_of parts)
