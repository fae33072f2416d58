use Rattle.std.proofs.Common.{[]}
use Rattle.route_map.proofs.SlotStepLemmas.{seen_in_order}
use Rattle.route_map.proofs.by_peer.ByPeer.len.Goals as goal

pub returns : goal.returns
returns g c = seen_in_order [] c.self.inside.order.entries c.self.inside.routes.items c.args.self.now c.self.view_is c.len.ensures.ordered
