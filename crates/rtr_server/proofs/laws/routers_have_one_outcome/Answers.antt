use Rattle.rtr_server.proofs.OneLemmas.{one_outcome}
use Rattle.rtr_server.proofs.laws.routers_have_one_outcome.Goals as goal

pub returns : goal.returns
returns c = one_outcome
