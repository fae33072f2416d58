-- Rows in one list of numbers, by the places where they begin; private contracts alone cite it.
use Rattle.std.specs.Prelude.{◌≡◌, ◌≤◌, ℕ, ◌+◌, true, List, length, take, drop, get_or, option_map}
use Rattle.std.specs.declared.option.Option.{Option}
use Rattle.std.specs.declared.option.Option.TheVariants.{Some}
use Rattle.std.specs.FinMap as map
use Rattle.std.specs.Ordering.{nat_cmp}
use Rattle.vap_table.specs.Filter.{is_marked}

-- where the row of each customer begins
abbrev pub Places : Type 0
Places = map.FinMap nat_cmp ℕ

-- these places, and the list
abbrev pub Quick : Type 0
Quick = Places × List ℕ

-- the row that begins at a place: the number of its ASes stands there, and then these
abbrev pub row_at : List ℕ → ℕ → List ℕ
row_at words place = take (get_or words place 0) (drop (place + 1) words)

-- that row ends within the list
abbrev pub IsWithin : List ℕ → ℕ → Type 0
IsWithin words place = place + 1 + get_or words place 0 ≤ length words

-- so do those of all customers
abbrev pub AreWithin : Places → List ℕ → Type 0
AreWithin places words = (x place : ℕ) → map.get places x ≡ Some place → IsWithin words place

-- each customer that has a place is marked
abbrev pub AreMarked : Places → List ℕ → Type 0
AreMarked places marks = (x place : ℕ) → map.get places x ≡ Some place → is_marked marks x ≡ true

-- both
pub record AreHeld (places : Places) (words marks : List ℕ) : Type 0 where
  pub within : AreWithin places words
  pub marked : AreMarked places marks

-- the row of a customer
abbrev pub quick_row : Quick → ℕ → Option (List ℕ)
quick_row quick x = option_map (row_at quick.1) (map.get quick.0 x)
