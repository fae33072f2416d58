use Rattle.std.proofs.Common.{List, arith, length, ap, sym, ◌∙◌}
use Rattle.std.specs.declared.option.Option.{Option}
use Rattle.path_model.specs.declared.nlri.Nlri.{Nlri}
use Rattle.route_map.specs.Flat.{of_peer, routes_or}
use Rattle.route_map.proofs.CountLemmas.{length_of_peer}
use Rattle.route_map.proofs.peer_table.PeerTable.len.Goals as goal

pub len-requires : goal.len-requires
len-requires g c = omega (
  arith,
  c.self.invariant.few,
  ap (λ (o : Option (List (Nlri × g.row.V.Denot))). length (of_peer c.self.inside.peer (routes_or o))) c.in-Some.is,
  length_of_peer c.self.inside.peer c.in-Some.routes,
)

pub returns-in-Some : goal.returns-in-Some
returns-in-Some g c =
    rw (← c.self.view_is, c.in-Some.is)
    (c.len.ensures ∙ sym (length_of_peer c.self.inside.peer c.in-Some.routes))
