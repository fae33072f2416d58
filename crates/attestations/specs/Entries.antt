-- What the iterator over attestations has left.
use Rattle.std.specs.Prelude.{◌≡◌, ℕ, List, [], ◌∷◌, ◌++◌}
use Rattle.std.specs.FinMap as map
use Rattle.std.specs.Option.{option_map}
use Rattle.std.specs.Ordering.{nat_cmp}
use Rattle.path_model.specs.Entries.{rows_left}
use Rattle.attestations.specs.declared.term.Term.{Term}
use Rattle.attestations.specs.declared.term_entries.TermEntries.{TermEntries}
use Rattle.attestations.specs.Terms.{TermMap, each, lasting, members}

-- each customer with the list of its attestations
abbrev pub terms_left : TermEntries → List (ℕ × List Term)
terms_left r = each (λ row. lasting row ∷ []) (rows_left r.rows) ++ (each (λ t. t ∷ []) r.single ++ each members r.many)

-- the entry of each customer has all of its attestations; one without an entry has none
abbrev pub AreEntriesOf : TermMap → List (ℕ × List Term) → Type 0
AreEntriesOf terms entries = (customer : ℕ) → map.find nat_cmp customer entries ≡ option_map members (map.get terms customer)
