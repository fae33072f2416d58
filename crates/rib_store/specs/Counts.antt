-- How many rows there are, and how many with each verdict.
use Rattle.std.specs.Prelude.{◌≡◌, ℕ, List, length}
use Rattle.std.specs.List.{count_by}
use Rattle.path_model.specs.declared.key.Key.{Key}
use Rattle.path_model.specs.declared.verdict.Verdict.{Verdict}
use Rattle.shared_cases.specs.declared.totals.Totals.{Totals}
use Rattle.shared_cases.specs.Totals.{is_valid, is_unknown, is_invalid}
use Rattle.rib_store.specs.declared.counts.Counts.{Counts}
use Rattle.rib_store.specs.State.{State, AreRows}

-- the counts of these rows
abbrev pub counted : List (Key × Verdict) → Counts
counted rows = record {
  routes = length rows;
  valid = count_by (λ row. is_valid row.1) rows;
  unknown = count_by (λ row. is_unknown row.1) rows;
  invalid = count_by (λ row. is_invalid row.1) rows;
}

-- these are the counts of the state's rows
pub record AreCounts (state : State) (counts : Counts) : Type 0 where
  pub rows : List (Key × Verdict)
  pub are : AreRows state rows
  pub counted : counts ≡ counted rows

-- so many routes, of whose cases these are the totals; private contracts alone cite it
abbrev pub counts_by : ℕ → Totals → Counts
counts_by number totals = record { routes = number; valid = totals.valid; unknown = totals.unknown; invalid = totals.invalid }
