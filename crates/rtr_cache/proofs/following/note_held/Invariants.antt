use Rattle.std.specs.FinMap as map
use Rattle.attestations.specs.ComputedTable.{table_of}
use Rattle.path_model.specs.Entries.{rows_left}
use Rattle.rtr_cache.specs.Kept.{held_noted}
use Rattle.rtr_cache.proofs.VisitLemmas.{Visiting}
use Rattle.rtr_cache.proofs.following.note_held.Given as goal

abbrev pub invariant-loop-customer : goal.invariant-loop-customer
invariant-loop-customer l = Visiting (λ q. map.get l.rows q) (held_noted (table_of l.table)) (λ q. map.get l.fn.back q) (rows_left l.customer-iterator) (λ q. map.get l.back q)
