use Rattle.std.proofs.Common.{[], arith, sym, ◌∙◌}
use Rattle.route_map.proofs.SlotStepLemmas.{none_found, none_gone, slot_within, slots_popped, slots_swapped, view_popped, view_swapped, found_popped, found_swapped}
use Rattle.route_map.proofs.by_peer.ByPeer.remove.Goals as goal

pub returns-in_err-slot-clause-taken : goal.returns-in_err-slot-clause-taken
returns-in_err-slot-clause-taken g c = c.from_residual.ensures ∙ sym (none_found [] c.self.inside.order.entries c.self.inside.routes.items c.args.self.now c.self.view_is c.args.peer.now (sym c.slot_of.ensures ∙ c.in_err-slot.was))

pub returns-in_err-slot-clause-removed : goal.returns-in_err-slot-clause-removed
returns-in_err-slot-clause-removed g c = none_gone [] c.self.inside.order.entries c.self.inside.routes.items c.args.self.now c.self.view_is c.args.peer.now (sym c.slot_of.ensures ∙ c.in_err-slot.was)

pub returns-in_err-last : goal.returns-in_err-last
returns-in_err-last g c = absurd (omega (
  arith,
  c.in_err-last.ensures.cases.0,
  c.self.inside.peers.ok,
  c.self.invariant.each,
  slot_within c.self.inside.order.entries c.self.inside.peers.items c.self.inside.routes.items c.self.invariant c.args.peer.now c.in_ok-slot.slot (sym c.slot_of.ensures ∙ c.in_ok-slot.was),
))

pub invariant_of-self-then-slot-len : goal.invariant_of-self-then-slot-len
invariant_of-self-then-slot-len g c = rw c.replace-taken.ensures.after (slots_swapped c.self.inside.order.entries c.remove.new.self.entries c.self.inside.peers.items c.pop.new.self.items c.self.inside.routes.items c.pop-2.new.self.items c.in_ok-last.last
    c.args.peer.now c.in_ok-routes.routes c.in_ok-slot.slot c.self.invariant c.len-order.ensures.ordered c.in_ok-last.ensures.items c.in_ok-routes.ensures.items (sym c.slot_of.ensures ∙ c.in_ok-slot.was)
    c.remove.ensures.entries
    (omega (arith, c.if-slot-len.true, c.len.ensures, c.pop.new.self.ok)) c.point.new.order.entries c.point.ensures)

pub invariant_of-self-else-slot-len : goal.invariant_of-self-else-slot-len
invariant_of-self-else-slot-len g c = slots_popped c.self.inside.order.entries c.remove.new.self.entries c.self.inside.peers.items c.pop.new.self.items c.self.inside.routes.items c.pop-2.new.self.items c.in_ok-last.last
    c.args.peer.now c.in_ok-routes.routes c.in_ok-slot.slot c.self.invariant c.len-order.ensures.ordered c.in_ok-last.ensures.items c.in_ok-routes.ensures.items (sym c.slot_of.ensures ∙ c.in_ok-slot.was)
    c.remove.ensures.entries
    (omega (arith, c.if-slot-len.false, c.len.ensures, c.pop.new.self.ok))

pub returns-then-slot-len-clause-taken : goal.returns-then-slot-len-clause-taken
returns-then-slot-len-clause-taken g c = rw c.replace-taken.ensures.value (found_swapped c.self.inside.order.entries c.remove.new.self.entries c.self.inside.peers.items c.pop.new.self.items c.self.inside.routes.items c.pop-2.new.self.items c.in_ok-last.last
    c.args.peer.now c.in_ok-routes.routes c.in_ok-slot.slot c.self.invariant c.len-order.ensures.ordered c.in_ok-last.ensures.items c.in_ok-routes.ensures.items (sym c.slot_of.ensures ∙ c.in_ok-slot.was)
    c.remove.ensures.entries
    (omega (arith, c.if-slot-len.true, c.len.ensures, c.pop.new.self.ok)) c.index_mut-then-slot-len.result.now c.index_mut-then-slot-len.ensures.value [] c.args.self.now c.self.view_is)

pub returns-then-slot-len-clause-removed : goal.returns-then-slot-len-clause-removed
returns-then-slot-len-clause-removed g c = rw c.replace-taken.ensures.after (view_swapped c.self.inside.order.entries c.remove.new.self.entries c.self.inside.peers.items c.pop.new.self.items c.self.inside.routes.items c.pop-2.new.self.items c.in_ok-last.last
    c.args.peer.now c.in_ok-routes.routes c.in_ok-slot.slot c.self.invariant c.len-order.ensures.ordered c.in_ok-last.ensures.items c.in_ok-routes.ensures.items (sym c.slot_of.ensures ∙ c.in_ok-slot.was)
    c.remove.ensures.entries
    (omega (arith, c.if-slot-len.true, c.len.ensures, c.pop.new.self.ok)) c.point.new.order.entries c.point.ensures [] c.args.self.now c.self.view_is)

pub returns-clause-taken : goal.returns-clause-taken
returns-clause-taken g c = found_popped c.self.inside.order.entries c.remove.new.self.entries c.self.inside.peers.items c.pop.new.self.items c.self.inside.routes.items c.pop-2.new.self.items c.in_ok-last.last
    c.args.peer.now c.in_ok-routes.routes c.in_ok-slot.slot c.self.invariant c.len-order.ensures.ordered c.in_ok-last.ensures.items c.in_ok-routes.ensures.items (sym c.slot_of.ensures ∙ c.in_ok-slot.was)
    c.remove.ensures.entries
    (omega (arith, c.if-slot-len.false, c.len.ensures, c.pop.new.self.ok)) [] c.args.self.now c.self.view_is

pub returns-clause-removed : goal.returns-clause-removed
returns-clause-removed g c = view_popped c.self.inside.order.entries c.remove.new.self.entries c.self.inside.peers.items c.pop.new.self.items c.self.inside.routes.items c.pop-2.new.self.items c.in_ok-last.last
    c.args.peer.now c.in_ok-routes.routes c.in_ok-slot.slot c.self.invariant c.len-order.ensures.ordered c.in_ok-last.ensures.items c.in_ok-routes.ensures.items (sym c.slot_of.ensures ∙ c.in_ok-slot.was)
    c.remove.ensures.entries
    (omega (arith, c.if-slot-len.false, c.len.ensures, c.pop.new.self.ok)) [] c.args.self.now c.self.view_is
