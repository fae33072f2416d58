use Rattle.witness_checker.proofs.HopLemmas.{no_hop}
use Rattle.witness_checker.proofs.hops.stops_climb.Goals as goal

pub returns-in-None : goal.returns-in-None
returns-in-None g c = no_hop c.args.chain.now _ c.args.hop c.in-None.ensures
