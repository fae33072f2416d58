use Rattle.route_map.proofs.LastLemmas.{has_plain, has_identified}
use Rattle.route_map.proofs.MergeLemmas.{both_are_empty}
use Rattle.route_map.proofs.peer_routes.PeerRoutes.one.Goals as goal

pub returns-in-Some-clause-some : goal.returns-in-Some-clause-some
returns-in-Some-clause-some g c =
    rw (← c.self.view_is) (has_plain c.in-Some.nlri c.self.inside.plain c.self.inside.identified c.in-Some.ensures.some)

pub returns-in-None-clause-none : goal.returns-in-None-clause-none
returns-in-None-clause-none g c =
    rw (← c.self.view_is) (both_are_empty c.self.inside.plain c.self.inside.identified c.in_default.ensures.none c.in-None.ensures.none)

pub returns-in-Some-last-clause-some : goal.returns-in-Some-last-clause-some
returns-in-Some-last-clause-some g c =
    rw (← c.self.view_is) (has_identified c.in-Some-last.nlri c.self.inside.plain c.self.inside.identified c.in-Some-last.ensures.some)
