use Rattle.std.proofs.Common.{List, arith, ap, sym, [], ◌≡◌, ◌∙◌}
use Rattle.std.specs.BTreeMap.{insert_entry, is_at}
use Rattle.std.specs.Map.{lookup, set_value}
use Rattle.std.specs.declared.option.Option.{Option}
use Rattle.std.proofs.lemmas.Result.{on_ok_weaker, on_err_weaker, IfOk-weaker}
use Rattle.path_model.specs.Key.{nlri_cmp, nlri_of, peer_cmp}
use Rattle.path_model.specs.declared.nlri.Nlri.{Nlri}
use Rattle.route_map.specs.Held.{found_at, value_at}
use Rattle.route_map.proofs.HeldLemmas.{found_value, puts_first, puts_more}
use Rattle.route_map.proofs.SlotStepLemmas.{none_found, slot_found, slot_within, slot_set, slot_same}
use Rattle.route_map.proofs.by_peer.ByPeer.put.Goals as goal

pub index_mut-requires : goal.index_mut-requires
index_mut-requires g c = omega (
  arith,
  c.self.inside.routes.ok,
  slot_within c.self.inside.order.entries c.self.inside.peers.items c.self.inside.routes.items c.self.invariant c.args.key.now.peer c.in-Some.slot (sym c.slot_of.ensures ∙ c.in-Some.is),
)

pub returns-in-Some-clause-before : goal.returns-in-Some-clause-before
returns-in-Some-clause-before g c =
    let at = sym c.slot_of.ensures ∙ c.in-Some.is in
    let there = slot_found [] c.self.inside.order.entries c.self.inside.routes.items c.args.self.now c.self.view_is c.args.key.now.peer c.in-Some.slot c.index_mut.result.now at
    (slot_within c.self.inside.order.entries c.self.inside.peers.items c.self.inside.routes.items c.self.invariant c.args.key.now.peer c.in-Some.slot at) c.index_mut.ensures.value in
    IfOk-weaker c.insert.result
    (λ v. v ≡ lookup (is_at (nlri_cmp c.nlri.result)) c.index_mut.result.now) (λ v. v ≡ value_at c.args.self.now c.args.key.now)
    (λ v is. is ∙ found_value c.args.self.now c.args.self.now c.args.key.now c.index_mut.result.now c.nlri.result there c.nlri.ensures) c.insert.ensures.before

pub returns-in-Some-clause-put : goal.returns-in-Some-clause-put
returns-in-Some-clause-put g c =
    let at = sym c.slot_of.ensures ∙ c.in-Some.is in
    let there = slot_found [] c.self.inside.order.entries c.self.inside.routes.items c.args.self.now c.self.view_is c.args.key.now.peer c.in-Some.slot c.index_mut.result.now at
    (slot_within c.self.inside.order.entries c.self.inside.peers.items c.self.inside.routes.items c.self.invariant c.args.key.now.peer c.in-Some.slot at) c.index_mut.ensures.value in
    on_ok_weaker c.insert.result
    (λ put. puts_more c.args.self.now _ c.args.key.now c.args.value c.index_mut.result.now there
    (slot_set c.self.inside.order.entries c.self.inside.peers.items c.self.inside.routes.items c.self.invariant c.args.key.now.peer [] c.args.self.now c.self.view_is c.len-order.ensures.ordered
    c.in-Some.slot c.insert.new.self at
    ∙ ap (set_value (is_at (peer_cmp c.args.key.now.peer)) c.args.self.now) (put ∙ ap (λ n. insert_entry nlri_cmp c.index_mut.result.now n c.args.value) c.nlri.ensures)))
    c.insert.ensures.put

pub returns-in-Some-clause-same : goal.returns-in-Some-clause-same
returns-in-Some-clause-same g c = on_err_weaker c.insert.result
    (λ same. slot_same c.self.inside.order.entries c.self.inside.peers.items c.self.inside.routes.items c.self.invariant c.args.key.now.peer [] c.args.self.now c.self.view_is c.in-Some.slot c.index_mut.result.now c.insert.new.self c.index_mut.ensures.value same)
    c.insert.ensures.same

pub put_first-requires : goal.put_first-requires
put_first-requires g c = none_found [] c.self.inside.order.entries c.self.inside.routes.items c.args.self.now c.self.view_is c.args.key.now.peer (sym c.slot_of.ensures ∙ c.in-None.is)

pub returns-in_ok-put_first-in-None-clause-before : goal.returns-in_ok-put_first-in-None-clause-before
returns-in_ok-put_first-in-None-clause-before g c = sym (ap (λ (o : Option (List (Nlri × g.row.V.Denot))). found_at o (nlri_of c.args.key.now))
    (none_found [] c.self.inside.order.entries c.self.inside.routes.items c.args.self.now c.self.view_is c.args.key.now.peer (sym c.slot_of.ensures ∙ c.in-None.is)))

pub returns-in_ok-put_first-in-None-clause-put : goal.returns-in_ok-put_first-in-None-clause-put
returns-in_ok-put_first-in-None-clause-put g c = puts_first c.args.self.now _ c.args.key.now c.args.value
    (none_found [] c.self.inside.order.entries c.self.inside.routes.items c.args.self.now c.self.view_is c.args.key.now.peer (sym c.slot_of.ensures ∙ c.in-None.is))
    c.in_ok-put_first-in-None.ensures.put
