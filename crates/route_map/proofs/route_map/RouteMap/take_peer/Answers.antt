use Rattle.std.proofs.Common.{ap, ◌∙◌}
use Rattle.route_map.specs.Flat.{flat}
use Rattle.route_map.proofs.CountLemmas.{are_taken, taken_within, taken_routes, held_left}
use Rattle.route_map.proofs.PartLemmas.{flat_of_others}
use Rattle.route_map.proofs.route_map.RouteMap.take_peer.Goals as goal

pub overflow_sub-self : goal.overflow_sub-self
overflow_sub-self g c = taken_within c.self.inside.peers c.self.inside.len c.self.invariant c.len-peers.ensures c.args.peer.now c.remove.result c.remove.ensures.taken c.len.result c.len.ensures

pub invariant_of-self : goal.invariant_of-self
invariant_of-self g c = held_left c.self.inside.peers c.self.inside.len c.self.invariant c.len-peers.ensures c.args.peer.now c.remove.result c.remove.ensures.taken c.len.result c.len.ensures c.remove.new.self c.remove.ensures.removed

pub invariant_of-taken : goal.invariant_of-taken
invariant_of-taken g c = are_taken c.self.inside.peers c.self.inside.len c.self.invariant c.len-peers.ensures c.args.peer.now c.remove.result c.remove.ensures.taken

pub returns-clause-taken : goal.returns-clause-taken
returns-clause-taken g c = rw (← c.self.view_is) (taken_routes c.self.inside.peers c.self.inside.len c.self.invariant c.len-peers.ensures c.args.peer.now c.remove.result c.remove.ensures.taken)

pub returns-clause-left : goal.returns-clause-left
returns-clause-left g c = rw (← c.self.view_is) (ap flat c.remove.ensures.removed ∙ flat_of_others c.args.peer.now c.self.inside.peers c.len-peers.ensures)
