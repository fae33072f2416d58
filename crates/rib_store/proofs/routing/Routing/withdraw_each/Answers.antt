use Rattle.std.proofs.Common.{◌<◌, ap, sym, subst, ◌∙◌}
use Rattle.std.specs.FinMap as fin
use Rattle.path_model.specs.Routes.{Routes}
use Rattle.rib_store.specs.Routing.{routed_state}
use Rattle.rib_store.specs.State.{State}
use Rattle.rib_store.proofs.OfPeerLemmas.{one_gone, all_gone, one_fewer, stays}
use Rattle.rib_store.proofs.routing.Routing.withdraw_each.Goals as goal

pub loop-key-smaller : goal.loop-key-smaller
loop-key-smaller c = subst (λ (m : Routes). fin.len m < fin.len (routed_state c.args.on.now.table.now c.args.on.now.roles.now c.loop-key.self).routes) (sym (ap (λ (s : State). s.routes) c.in_ok-withdraw.ensures.state))
    (one_fewer (routed_state c.args.on.now.table.now c.args.on.now.roles.now c.loop-key.self).routes c.in-Some.key c.in-Some.ensures.some.route)

pub loop-key-preserved : goal.loop-key-preserved
loop-key-preserved c = record {
  routed = c.in_ok-withdraw.ensures.routed;
  state = ap (λ (s : State). record s { routes = fin.retain_keys s.routes (stays c.args.peer.now) }) c.in_ok-withdraw.ensures.state
      ∙ ap (λ (m : Routes). record (routed_state c.args.on.now.table.now c.args.on.now.roles.now c.loop-key.self) { routes = m })
      (one_gone (routed_state c.args.on.now.table.now c.args.on.now.roles.now c.loop-key.self).routes c.args.peer.now c.in-Some.key c.in-Some.ensures.some.of_peer)
      ∙ c.loop-key.invariant.state;
}

pub returns-clause-state : goal.returns-clause-state
returns-clause-state c = sym (ap (λ (m : Routes). record (routed_state c.args.on.now.table.now c.args.on.now.roles.now c.loop-key.self) { routes = m })
    (all_gone (routed_state c.args.on.now.table.now c.args.on.now.roles.now c.loop-key.self).routes c.args.peer.now c.in_default.ensures.none)) ∙ c.loop-key.invariant.state
