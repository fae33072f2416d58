use Rattle.std.proofs.Common.{List, Some, refl, arith, ap, sym, [], set, true≢false, ◌≡◌, ◌∙◌}
use Rattle.std.specs.BTreeMap.{is_at}
use Rattle.std.specs.declared.option.Option.{Option}
use Rattle.std.specs.Map.{set_value, remove_entry}
use Rattle.std.proofs.lemmas.List.{length-set}
use Rattle.path_model.specs.declared.nlri.Nlri.{Nlri}
use Rattle.path_model.specs.Key.{nlri_cmp, nlri_of, peer_cmp}
use Rattle.route_map.specs.Held.{found_at}
use Rattle.route_map.proofs.HeldLemmas.{found_value, takes_none, takes_more}
use Rattle.route_map.proofs.SlotStepLemmas.{none_found, slot_found, slot_within, slot_set}
use Rattle.route_map.proofs.by_peer.ByPeer.take_out.Goals as goal

pub index_mut-requires : goal.index_mut-requires
index_mut-requires g c = omega (
  arith,
  c.self.inside.routes.ok,
  slot_within c.self.inside.order.entries c.self.inside.peers.items c.self.inside.routes.items c.self.invariant c.args.key.now.peer c.in-Some.slot (sym c.slot_of.ensures ∙ c.in-Some.is),
)

pub index-requires : goal.index-requires
index-requires g c = omega (
  arith,
  c.self.inside.routes.ok,
  slot_within c.self.inside.order.entries c.self.inside.peers.items c.self.inside.routes.items c.self.invariant c.args.key.now.peer c.in-Some.slot (sym c.slot_of.ensures ∙ c.in-Some.is),
)

pub returns-in-None-clause-before : goal.returns-in-None-clause-before
returns-in-None-clause-before g c = sym (ap (λ (o : Option (List (Nlri × g.row.V.Denot))). found_at o (nlri_of c.args.key.now))
    (none_found [] c.self.inside.order.entries c.self.inside.routes.items c.args.self.now c.self.view_is c.args.key.now.peer (sym c.slot_of.ensures ∙ c.in-None.is)))

pub returns-in-None-clause-taken : goal.returns-in-None-clause-taken
returns-in-None-clause-taken g c = takes_none c.args.self.now _ c.args.key.now
    (none_found [] c.self.inside.order.entries c.self.inside.routes.items c.args.self.now c.self.view_is c.args.key.now.peer (sym c.slot_of.ensures ∙ c.in-None.is)) refl

pub returns-in-None-clause-emptied : goal.returns-in-None-clause-emptied
returns-in-None-clause-emptied g c = (
  λ told. absurd (true≢false (sym told)),
  λ empty.
      let both = sym (none_found [] c.self.inside.order.entries c.self.inside.routes.items c.args.self.now c.self.view_is c.args.key.now.peer (sym c.slot_of.ensures ∙ c.in-None.is)) ∙ empty in
      absurd cc,
)

pub returns-in-Some-clause-before : goal.returns-in-Some-clause-before
returns-in-Some-clause-before g c =
    let at = sym c.slot_of.ensures ∙ c.in-Some.is in
    let there = slot_found [] c.self.inside.order.entries c.self.inside.routes.items c.args.self.now c.self.view_is c.args.key.now.peer c.in-Some.slot c.index_mut.result.now at
    (slot_within c.self.inside.order.entries c.self.inside.peers.items c.self.inside.routes.items c.self.invariant c.args.key.now.peer c.in-Some.slot at) c.index_mut.ensures.value in
    c.remove-before.ensures.before ∙ found_value c.args.self.now c.args.self.now c.args.key.now c.index_mut.result.now c.nlri.result there c.nlri.ensures

pub returns-in-Some-clause-taken : goal.returns-in-Some-clause-taken
returns-in-Some-clause-taken g c =
    let at = sym c.slot_of.ensures ∙ c.in-Some.is in
    let there = slot_found [] c.self.inside.order.entries c.self.inside.routes.items c.args.self.now c.self.view_is c.args.key.now.peer c.in-Some.slot c.index_mut.result.now at
    (slot_within c.self.inside.order.entries c.self.inside.peers.items c.self.inside.routes.items c.self.invariant c.args.key.now.peer c.in-Some.slot at) c.index_mut.ensures.value in
    takes_more c.args.self.now _ c.args.key.now c.index_mut.result.now there
    (slot_set c.self.inside.order.entries c.self.inside.peers.items c.self.inside.routes.items c.self.invariant c.args.key.now.peer [] c.args.self.now c.self.view_is c.len-order.ensures.ordered c.in-Some.slot c.remove-before.new.self at
    ∙ ap (set_value (is_at (peer_cmp c.args.key.now.peer)) c.args.self.now)
    (c.remove-before.ensures.removed ∙ ap (λ n. remove_entry (is_at (nlri_cmp n)) c.index_mut.result.now) c.nlri.ensures))

pub returns-in-Some-clause-emptied : goal.returns-in-Some-clause-emptied
returns-in-Some-clause-emptied g c =
    let at = sym c.slot_of.ensures ∙ c.in-Some.is in
    let there = slot_found [] c.self.inside.order.entries (set c.self.inside.routes.items c.in-Some.slot c.remove-before.new.self) _ refl c.args.key.now.peer c.in-Some.slot c.index.result.now at
    (omega (arith, length-set c.self.inside.routes.items c.in-Some.slot c.remove-before.new.self, slot_within c.self.inside.order.entries c.self.inside.peers.items c.self.inside.routes.items c.self.invariant c.args.key.now.peer c.in-Some.slot at)) c.index.ensures in (
      λ told. there ∙ ap Some (c.is_empty.ensures.0 told),
      λ empty.
          let both = sym there ∙ empty in
          let same : c.index.result.now ≡ [] = cc in
          c.is_empty.ensures.1 same,
    )
