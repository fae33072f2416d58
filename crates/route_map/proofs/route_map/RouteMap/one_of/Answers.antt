use Rattle.std.proofs.Common.{None, Some, ap, refl, sym, subst, ◌∙◌}
use Rattle.std.specs.Option.{option_copied}
use Rattle.path_model.specs.declared.key.Key.{Key}
use Rattle.route_map.specs.Flat.{flat}
use Rattle.route_map.specs.OfPeer.{IsRouteOf}
use Rattle.route_map.proofs.PartLemmas.{none_of_peer, one_of_peer}
use Rattle.route_map.proofs.route_map.RouteMap.one_of.Goals as goal

pub returns-in-None-clause-none : goal.returns-in-None-clause-none
returns-in-None-clause-none g c =
    rw (← c.self.view_is) (none_of_peer c.args.peer.now c.self.inside.peers c.len-peers.ensures None (sym c.get.ensures ∙ ap option_copied c.in-None.is) refl)

pub returns-in-None-one-clause-none : goal.returns-in-None-one-clause-none
returns-in-None-one-clause-none g c =
    rw (← c.self.view_is)
    (none_of_peer c.args.peer.now c.self.inside.peers c.len-peers.ensures (Some c.in-Some.routes.now) (sym c.get.ensures ∙ ap option_copied c.in-Some.is)
    c.in-None-one.ensures.none)

pub returns-in-Some-one-clause-some : goal.returns-in-Some-one-clause-some
returns-in-Some-one-clause-some g c =
    rw (← c.self.view_is)
    (subst (λ (key : Key). IsRouteOf (flat c.self.inside.peers) c.args.peer.now key) (sym c.new.ensures)
    (one_of_peer c.args.peer.now c.self.inside.peers c.len-peers.ensures c.in-Some.routes.now c.in-Some-one.nlri (sym c.get.ensures ∙ ap option_copied c.in-Some.is)
    c.in-Some-one.ensures.some))
