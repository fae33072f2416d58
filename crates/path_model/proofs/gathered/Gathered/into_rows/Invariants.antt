use Rattle.path_model.proofs.RowLemmas.{Normal}
use Rattle.path_model.proofs.gathered.Gathered.into_rows.Given as goal

abbrev pub invariant-loop-customer : goal.invariant-loop-customer
invariant-loop-customer l = Normal l.initial.customer-iterator l.customer-iterator l.rows
