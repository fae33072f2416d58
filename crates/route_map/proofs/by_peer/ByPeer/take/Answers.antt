use Rattle.std.proofs.Common.{ap, sym, subst, ◌∙◌, true≢false}
use Rattle.route_map.specs.Flat.{flat, HaveRoutes}
use Rattle.route_map.proofs.FlatLemmas.{lookup_flat}
use Rattle.route_map.proofs.HeldLemmas.{have_taken, have_rest, flat_taken, emptied_gone}
use Rattle.route_map.proofs.by_peer.ByPeer.take.Goals as goal

pub returns-then-emptied-clause-before : goal.returns-then-emptied-clause-before
returns-then-emptied-clause-before g c = c.take_out-before.ensures.before ∙ sym (lookup_flat c.args.key.now c.args.self.now c.len-peers.ensures)

pub returns-then-emptied-clause-removed : goal.returns-then-emptied-clause-removed
returns-then-emptied-clause-removed g c = ap flat c.remove.ensures.removed
    ∙ emptied_gone c.args.key.now.peer c.take_out-before.new.self (c.take_out-before.ensures.emptied.0 c.if-emptied.true)
    ∙ flat_taken c.args.self.now c.take_out-before.new.self c.args.key.now c.len-peers.ensures c.take_out-before.ensures.taken

pub returns-then-emptied-clause-kept : goal.returns-then-emptied-clause-kept
returns-then-emptied-clause-kept g c = λ have. subst HaveRoutes (sym c.remove.ensures.removed)
    (have_rest c.args.self.now c.take_out-before.new.self c.args.key.now have c.take_out-before.ensures.taken)

pub returns-else-emptied-clause-before : goal.returns-else-emptied-clause-before
returns-else-emptied-clause-before g c = c.take_out-before.ensures.before ∙ sym (lookup_flat c.args.key.now c.args.self.now c.len-peers.ensures)

pub returns-else-emptied-clause-removed : goal.returns-else-emptied-clause-removed
returns-else-emptied-clause-removed g c =
    flat_taken c.args.self.now c.take_out-before.new.self c.args.key.now c.len-peers.ensures c.take_out-before.ensures.taken

pub returns-else-emptied-clause-kept : goal.returns-else-emptied-clause-kept
returns-else-emptied-clause-kept g c = λ have. have_taken c.args.self.now c.take_out-before.new.self c.args.key.now have c.take_out-before.ensures.taken
    (λ emptied. true≢false (sym (c.take_out-before.ensures.emptied.1 emptied) ∙ c.if-emptied.false))
