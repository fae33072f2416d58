use Rattle.path_model.specs.Entries.{patches_left}
use Rattle.rtr_cache.proofs.TellingLemmas.{TellingChanged}
use Rattle.rtr_cache.proofs.telling.put_difference.Given as goal

abbrev pub invariant-loop-customer : goal.invariant-loop-customer
invariant-loop-customer l = TellingChanged l.rows l.back (patches_left l.customer-iterator) l.fn.out.items l.out.items
