-- The current row of a customer, read off its tally; private contracts alone cite it.
use Rattle.std.specs.Prelude.{ℕ, nat_eq, Bool, not, ◌||◌, ◌&&◌, List, [], ◌∷◌, if◌then◌else◌}
use Rattle.std.specs.declared.option.Option.{Option}
use Rattle.std.specs.declared.option.Option.TheVariants.{Some, None}
use Rattle.vap_table.specs.declared.tally.Given.{Given}
use Rattle.vap_table.specs.declared.tally.Tally.{Tally}

-- some of so many rows of sources and of assertions go in; no filter touches assertions
abbrev pub some_go : Bool → ℕ × ℕ → Bool
some_go is_filtered rows = not (nat_eq rows.1 0) || (not is_filtered && not (nat_eq rows.0 0))

-- the number is a provider of the current row: 0 names none
abbrev pub goes_in : Bool → Given → Bool
goes_in is_filtered one = not (nat_eq one.provider 0) && some_go is_filtered (one.sources, one.assertions)

-- a row goes in
abbrev pub has_row : Bool → Tally → Bool
has_row is_filtered tally = some_go is_filtered (tally.sources, tally.assertions)

-- the providers that go in
abbrev pub shown : Bool → List Given → List ℕ
shown is_filtered [] = []
shown is_filtered (one ∷ given) = if goes_in is_filtered one then one.provider ∷ shown is_filtered given else shown is_filtered given

abbrev pub row_shown : Bool → Option Tally → Option (List ℕ)
row_shown is_filtered None = None
row_shown is_filtered (Some tally) = if has_row is_filtered tally then Some (shown is_filtered tally.given) else None
