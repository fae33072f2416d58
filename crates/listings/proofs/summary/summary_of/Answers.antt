use Rattle.std.proofs.Common.{refl, subst}
use Rattle.attestations.specs.ComputedTable.{table_of}
use Rattle.attestations.specs.CurrentTable.{Parts}
use Rattle.attestations.proofs.PartsLemmas.{table_is_current}
use Rattle.vap_table.specs.Vaps.{IsNumberOfRows}
use Rattle.listings.proofs.summary.summary_of.Goals as goal

pub returns : goal.returns
returns c = record {
  counts = c.counts-counts.result;
  are = c.counts-counts.ensures;
  table = table_of c.args.store.now.state.parts;
  current = table_is_current c.args.store.now.state.parts;
  customers = c.customers.result;
  attest = subst (λ (parts : Parts). IsNumberOfRows (table_of parts) c.customers.result) c.table-table.ensures c.customers.ensures;
  summary_is = refl;
}
