use Rattle.aspa_top.proofs.ServingLemmas.{routers_get_table}
use Rattle.aspa_top.proofs.laws.served_routers_get_the_table.Goals as goal

pub returns : goal.returns
returns c = routers_get_table
