use Rattle.std.specs.FinMap as map
use Rattle.attestations.specs.ComputedTable.{table_of}
use Rattle.path_model.specs.Entries.{patches_left}
use Rattle.rtr_cache.specs.Kept.{table_row}
use Rattle.rtr_cache.proofs.VisitLemmas.{Visiting}
use Rattle.rtr_cache.proofs.following.follow.Given as goal

abbrev pub invariant-loop-customer : goal.invariant-loop-customer
invariant-loop-customer l = Visiting (λ q. map.get l.back q) (table_row (table_of l.table)) (λ q. map.get l.fn.rows q) (patches_left l.customer-iterator) (λ q. map.get l.rows q)
