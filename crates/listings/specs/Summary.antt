-- What the summary of an analysis says.
use Rattle.std.specs.Prelude.{◌≡◌, ℕ}
use Rattle.path_model.specs.Authority.{Table}
use Rattle.attestations.specs.CurrentTable.{IsCurrentTable}
use Rattle.vap_table.specs.Vaps.{IsNumberOfRows}
use Rattle.report_text.specs.declared.summary.Summary.{Summary}
use Rattle.rib_store.specs.declared.counts.Counts.{Counts}
use Rattle.rib_store.specs.Counts.{AreCounts}
use Rattle.rib_store.specs.State.{State}

-- how many routes there are and how many with each verdict, how many customers have a row of the current table, and the two numbers given
pub record IsSummary (state : State) (passed refused : ℕ) (summary : Summary) : Type 0 where
  pub counts : Counts
  pub are : AreCounts state counts
  pub table : Table
  pub current : IsCurrentTable state.parts table
  pub customers : ℕ
  pub attest : IsNumberOfRows table customers
  pub summary_is : summary ≡ record {
    routes = counts.routes;
    valid = counts.valid;
    unknown = counts.unknown;
    invalid = counts.invalid;
    customers = customers;
    passed = passed;
    refused = refused;
  }
