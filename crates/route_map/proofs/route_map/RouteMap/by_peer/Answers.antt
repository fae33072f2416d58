use Rattle.std.proofs.Common.{◌≡◌, List, length, arith, ap, sym, subst, ◌∙◌}
use Rattle.std.specs.List.Sorted.{IsStrictlySortedBy}
use Rattle.std.specs.Map.{keys_of}
use Rattle.path_model.specs.declared.nlri.Nlri.{Nlri}
use Rattle.path_model.specs.declared.peer.Peer.{Peer}
use Rattle.path_model.specs.Key.{peer_cmp}
use Rattle.route_map.specs.Flat.{flat}
use Rattle.route_map.proofs.route_map.RouteMap.by_peer.Goals as goal

pub returns-clause-few : goal.returns-clause-few
returns-clause-few g c =
    let counted : length (flat c.iter_peers.result) ≡ c.self.inside.len = ap (λ ps. length (flat ps)) c.iter_peers.ensures ∙ sym c.self.invariant.counted in
    omega (arith, counted, c.self.invariant.few)

pub returns-clause-peers : goal.returns-clause-peers
returns-clause-peers g c = subst (λ (ps : List (Peer × List (Nlri × g.row.V.Denot))). IsStrictlySortedBy peer_cmp (keys_of ps)) (sym c.iter_peers.ensures) c.len-peers.ensures
