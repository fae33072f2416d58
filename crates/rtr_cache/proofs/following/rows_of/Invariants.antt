use Rattle.std.proofs.Common.{None}
use Rattle.std.specs.FinMap as map
use Rattle.attestations.specs.ComputedTable.{table_of}
use Rattle.vap_table.specs.Entries.{entries_left}
use Rattle.rtr_cache.specs.Kept.{row_taken}
use Rattle.rtr_cache.proofs.VisitLemmas.{Visiting}
use Rattle.rtr_cache.proofs.following.rows_of.Given as goal

abbrev pub invariant-loop-customer : goal.invariant-loop-customer
invariant-loop-customer l = Visiting (table_of l.table) row_taken (λ q. None) (entries_left l.customer-iterator) (λ q. map.get l.rows q)
