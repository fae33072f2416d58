-- What the step of a line of `attests` adds; private contracts alone cite it.
use Rattle.std.specs.Prelude.{ℕ, suc, ◌-◌, nat_le, if◌then◌else◌, List, [], ◌∷◌, ◌++◌, length, map, codes, decimal}
use Rattle.std.specs.List.{flat_map, onto_first}
use Rattle.report_text.specs.Assertions.{most_bytes}
use Rattle.listings.specs.Attests.{Grouped, attested_row, rows_under}

-- the bytes that a line of this customer has for its providers
abbrev pub whole_room : ℕ → ℕ
whole_room customer = most_bytes - length (codes "assert " ++ decimal customer)

-- the bytes of a provider, with the space in front of it
abbrev pub size_of : ℕ → ℕ
size_of provider = suc (length (decimal provider))

-- Providers on a line that has so many bytes left for them, and on lines behind it that have all.
abbrev pub grouped : ℕ → ℕ → List ℕ → List (List ℕ)
grouped whole room [] = [] ∷ []
grouped whole room (provider ∷ more) =
    if nat_le (size_of provider) room then onto_first provider (grouped whole (room - size_of provider) more)
    else [] ∷ onto_first provider (grouped whole (whole - size_of provider) more)

-- the groups of a row
abbrev pub groups_of : ℕ → List ℕ → List (List ℕ)
groups_of customer [] = [] ∷ []
groups_of customer (provider ∷ row) =
    onto_first provider (grouped (whole_room customer) (whole_room customer - size_of provider) row)

-- each customer and its row with the groups of this
abbrev pub with_groups : ℕ × List ℕ → Grouped
with_groups entry = (entry, groups_of entry.0 entry.1)

-- the rows of a customer
abbrev pub rows_for : ℕ × List ℕ → List (ℕ × List ℕ)
rows_for entry = rows_under (with_groups entry)

-- those of the providers that are left, if there are some
abbrev pub rows_of_rest : ℕ → List ℕ → List (ℕ × List ℕ)
rows_of_rest customer [] = []
rows_of_rest customer (provider ∷ more) = rows_for (customer, provider ∷ more)

-- what the steps of all add: the providers of a customer that are left, and then these customers
abbrev pub pieces : ℕ → List ℕ → List (ℕ × List ℕ) → List (List ℕ)
pieces customer left entries = map attested_row (rows_of_rest customer left ++ flat_map rows_for entries)
