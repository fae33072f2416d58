use Rattle.std.proofs.Common.{[], arith}
use Rattle.route_map.proofs.SlotStepLemmas.{no_slot, slots_pushed, view_pushed}
use Rattle.route_map.proofs.by_peer.ByPeer.add.Goals as goal

pub invariant_of-self-in-Ok-enter : goal.invariant_of-self-in-Ok-enter
invariant_of-self-in-Ok-enter g c = slots_pushed c.self.inside.order.entries c.self.inside.peers.items c.self.inside.routes.items c.self.invariant c.args.peer
    c.enter.new.order.entries c.push.new.self.items c.push-2.new.list.items c.len-slot.result c.args.routes c.in-Ok-enter.ensures.entered c.in_ok-push.ensures.items c.in-Ok.ensures.pushed
    (omega (arith, c.len-slot.ensures, c.self.inside.peers.ok))
    (no_slot [] c.self.inside.order.entries c.self.inside.routes.items c.args.self.now c.self.view_is c.args.peer c.requires)

pub returns-in-Ok-enter-clause-added : goal.returns-in-Ok-enter-clause-added
returns-in-Ok-enter-clause-added g c = view_pushed c.self.inside.order.entries c.self.inside.peers.items c.self.inside.routes.items c.self.invariant c.args.peer
    c.enter.new.order.entries c.push.new.self.items c.push-2.new.list.items c.len-slot.result c.args.routes c.in-Ok-enter.ensures.entered c.in_ok-push.ensures.items c.in-Ok.ensures.pushed
    (omega (arith, c.len-slot.ensures, c.self.inside.peers.ok))
    [] c.args.self.now c.self.view_is c.len-order.ensures.ordered
