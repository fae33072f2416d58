use Rattle.attestations.specs.ComputedTable.{table_of}
use Rattle.vap_table.specs.Entries.{entries_left}
use Rattle.rtr_cache.proofs.FittingLemmas.{Fitting}
use Rattle.rtr_cache.proofs.fitting.fits_pdus.Given as goal

abbrev pub invariant-loop-row : goal.invariant-loop-row
invariant-loop-row l = Fitting (table_of l.table) (entries_left l.row-iterator)
