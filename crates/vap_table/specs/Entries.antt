-- What the iterator over the current rows has left.
use Rattle.std.specs.Prelude.{ℕ, List, [], ◌∷◌}
use Rattle.std.specs.declared.option.Option.{Option}
use Rattle.std.specs.declared.option.Option.TheVariants.{Some, None}
use Rattle.std.specs.FinMap as map
use Rattle.path_model.specs.Rows.{RowMap}
use Rattle.attestations.specs.Terms.{TermMap}
use Rattle.vap_table.specs.declared.current.Current.{Current}
use Rattle.vap_table.specs.declared.entries.Entries.{Entries}
use Rattle.vap_table.specs.Current.{kept_row}

-- a customer with its row before others, if it has one
abbrev pub onto_row : ℕ → Option (List ℕ) → List (ℕ × List ℕ) → List (ℕ × List ℕ)
onto_row x None rest = rest
onto_row x (Some row) rest = (x, row) ∷ rest

-- these customers with the rows that are kept of them
abbrev pub with_rows : Current → ℕ → List (List ℕ × TermMap) → List ℕ → List (ℕ × List ℕ)
with_rows current moment sources [] = []
with_rows current moment sources (x ∷ xs) = onto_row x (kept_row current moment sources x) (with_rows current moment sources xs)

abbrev pub entries_left : Entries → List (ℕ × List ℕ)
entries_left e = with_rows e.current.now e.parts.now.moment e.parts.now.sources e.customers

-- entries as a finite map
abbrev pub rows_of : List (ℕ × List ℕ) → RowMap
rows_of entries = map.from_entries entries
