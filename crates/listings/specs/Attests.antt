-- The text that says the current table as a script.
use Rattle.std.specs.Prelude.{◌≡◌, ◌≢◌, ℕ, ◌<◌, ◌≤◌, List, [], ◌∷◌, ◌++◌, length, map, take, All, ⊤}
use Rattle.std.specs.FinMap as fin
use Rattle.std.specs.List.{concat, flat_map}
use Rattle.attestations.specs.CurrentTable.{IsCurrentTable, Parts}
use Rattle.path_model.specs.Rows.{RowMap}
use Rattle.report_text.specs.Assertions.{assertion_line, assertion_text, most_bytes}

-- The providers of a line have room on it: one always has, since an AS has at most ten digits.
abbrev pub HaveRoom : ℕ → List ℕ → Type 0
HaveRoom customer group = 1 < length group → length (assertion_line customer group) ≤ most_bytes

-- no group has room for the first provider of the next one
abbrev pub AreFull : ℕ → List (List ℕ) → Type 0
AreFull customer [] = ⊤
AreFull customer (group ∷ []) = ⊤
AreFull customer (group ∷ next ∷ more) =
    (most_bytes < length (assertion_line customer (group ++ take 1 next))) × AreFull customer (next ∷ more)

-- The providers of a row in order, in groups that have room on a line each, and are as large as can be.
pub record AreFilled (customer : ℕ) (row : List ℕ) (groups : List (List ℕ)) : Type 0 where
  pub whole : concat groups ≡ row
  pub some : All (λ group. group ≢ []) groups
  pub room : All (HaveRoom customer) groups
  pub full : AreFull customer groups

-- the groups of a customer's row, one for each of its lines; an empty row has one line too
abbrev pub AreGroups : ℕ → List ℕ → List (List ℕ) → Type 0
AreGroups customer [] groups = groups ≡ [] ∷ []
AreGroups customer (provider ∷ row) groups = AreFilled customer (provider ∷ row) groups

-- a customer and its row, with the groups of this
abbrev pub Grouped : Type 0
Grouped = (ℕ × List ℕ) × List (List ℕ)

-- the customer once more with each group
abbrev pub rows_under : Grouped → List (ℕ × List ℕ)
rows_under g = map (λ group. (g.0.0, group)) g.1

-- The current table, customer by customer, by rising number, each with the groups of its row.
pub record AreAttested (parts : Parts) (rows : List (ℕ × List ℕ)) : Type 0 where
  pub table : RowMap
  pub current : IsCurrentTable parts (λ customer. fin.get table customer)
  pub grouped : List Grouped
  pub entries : map (λ g. g.0) grouped ≡ fin.entries table
  pub groups : All (λ g. AreGroups g.0.0 g.0.1 g.1) grouped
  pub listed : rows ≡ flat_map rows_under grouped

-- the line of a customer with a group
abbrev pub attested_row : ℕ × List ℕ → List ℕ
attested_row row = assertion_text row.0 row.1
