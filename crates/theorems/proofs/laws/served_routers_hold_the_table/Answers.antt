use Rattle.theorems.proofs.ServedLemmas as lemmas
use Rattle.theorems.proofs.laws.served_routers_hold_the_table.Goals as goal

pub returns : goal.returns
returns c = lemmas.served_routers_hold_the_table
