use Rattle.std.proofs.Common.{arith, sym, subst, [], ◌∙◌}
use Rattle.route_map.specs.Slots.{IsInverse}
use Rattle.route_map.proofs.SlotStepLemmas.{none_found, slot_found, slot_within}
use Rattle.route_map.proofs.by_peer.ByPeer.get.Goals as goal

pub slot_of-requires : goal.slot_of-requires
slot_of-requires g c = subst (IsInverse c.self.inside.order.entries) (sym c.deref.ensures.value) c.self.invariant.inverse

pub index-requires : goal.index-requires
index-requires g c = omega (
  arith,
  c.self.inside.routes.ok,
  slot_within c.self.inside.order.entries c.self.inside.peers.items c.self.inside.routes.items c.self.invariant c.args.peer.now c.in-Some.slot (sym c.slot_of.ensures ∙ c.in-Some.is),
)

pub returns-in-None : goal.returns-in-None
returns-in-None g c = sym (none_found [] c.self.inside.order.entries c.self.inside.routes.items c.args.self.now c.self.view_is c.args.peer.now (sym c.slot_of.ensures ∙ c.in-None.is))

pub returns-in-Some : goal.returns-in-Some
returns-in-Some g c =
    let at = sym c.slot_of.ensures ∙ c.in-Some.is in
    sym (slot_found [] c.self.inside.order.entries c.self.inside.routes.items c.args.self.now c.self.view_is c.args.peer.now c.in-Some.slot c.index.result.now at
    (slot_within c.self.inside.order.entries c.self.inside.peers.items c.self.inside.routes.items c.self.invariant c.args.peer.now c.in-Some.slot at) c.index.ensures)
