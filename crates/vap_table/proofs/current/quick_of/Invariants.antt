use Rattle.vap_table.specs.Current.{kept_row}
use Rattle.vap_table.specs.Quick.{quick_row}
use Rattle.vap_table.proofs.CurrentLemmas.{Copying}
use Rattle.vap_table.proofs.current.quick_of.Given as goal

abbrev pub invariant-loop-customer : goal.invariant-loop-customer
invariant-loop-customer l = Copying (kept_row l.current l.parts.moment l.parts.sources) l.current.customers l.customer-iterator (quick_row l.quick)
