use Rattle.route_map.proofs.MergeLemmas.{two_nothing}
use Rattle.route_map.proofs.peer_routes.PeerRoutes.new.Goals as goal

pub invariant_of-result : goal.invariant_of-result
invariant_of-result g c = rw (c.new.ensures, c.new-2.ensures) two_nothing
