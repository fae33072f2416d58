use Rattle.rtr_server.proofs.LostLemmas.{lost_routers}
use Rattle.rtr_server.proofs.laws.lost_routers_broke.Goals as goal

pub returns : goal.returns
returns c = lost_routers
