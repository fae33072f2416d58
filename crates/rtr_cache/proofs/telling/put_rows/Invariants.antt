use Rattle.path_model.specs.Entries.{rows_left}
use Rattle.rtr_cache.proofs.TellingLemmas.{TellingRows}
use Rattle.rtr_cache.proofs.telling.put_rows.Given as goal

abbrev pub invariant-loop-customer : goal.invariant-loop-customer
invariant-loop-customer l = TellingRows l.rows (rows_left l.customer-iterator) l.fn.out.items l.out.items
