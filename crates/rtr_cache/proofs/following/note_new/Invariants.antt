use Rattle.std.specs.FinMap as map
use Rattle.attestations.specs.ComputedTable.{table_of}
use Rattle.vap_table.specs.Entries.{entries_left}
use Rattle.rtr_cache.specs.Kept.{new_noted}
use Rattle.rtr_cache.proofs.VisitLemmas.{Visiting}
use Rattle.rtr_cache.proofs.following.note_new.Given as goal

abbrev pub invariant-loop-customer : goal.invariant-loop-customer
invariant-loop-customer l = Visiting (table_of l.table) (new_noted l.rows) (λ q. map.get l.fn.back q) (entries_left l.customer-iterator) (λ q. map.get l.back q)
