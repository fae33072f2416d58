use Rattle.std.specs.FinMap as map
use Rattle.path_model.specs.Entries.{patches_left}
use Rattle.rtr_cache.specs.Kept.{given_now}
use Rattle.rtr_cache.proofs.VisitLemmas.{Visiting}
use Rattle.rtr_cache.proofs.telling.override_with.Given as goal

abbrev pub invariant-loop-customer : goal.invariant-loop-customer
invariant-loop-customer l = Visiting (λ q. map.get l.patch q) given_now (λ q. map.get l.fn.whole q) (patches_left l.customer-iterator) (λ q. map.get l.whole q)
