use Rattle.std.proofs.Common.{arith, length, ap}
use Rattle.route_map.proofs.MergeLemmas.{length_merged}
use Rattle.route_map.proofs.peer_routes.PeerRoutes.len.Goals as goal

pub overflow_add-result : goal.overflow_add-result
overflow_add-result g c = omega (arith, c.requires, ap length c.self.view_is, length_merged c.self.inside.plain c.self.inside.identified c.self.invariant, c.len.ensures, c.len-2.ensures)

pub returns : goal.returns
returns g c = omega (arith, ap length c.self.view_is, length_merged c.self.inside.plain c.self.inside.identified c.self.invariant, c.len.ensures, c.len-2.ensures)
