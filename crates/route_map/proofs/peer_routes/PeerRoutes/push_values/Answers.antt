use Rattle.std.proofs.Common.{sym, ◌∙◌}
use Rattle.route_map.proofs.ValueLemmas.{merged_with_none, none_merged}
use Rattle.route_map.proofs.peer_routes.PeerRoutes.push_values.Goals as goal

pub returns-then-is_empty : goal.returns-then-is_empty
returns-then-is_empty g c =
    rw (← (sym (merged_with_none c.self.inside.plain c.self.inside.identified c.self.invariant.plain_in_order (c.is_empty.ensures.0 c.if-is_empty.true)) ∙ c.self.view_is)) c.push_values.ensures

pub returns-then-is_empty-2 : goal.returns-then-is_empty-2
returns-then-is_empty-2 g c =
    rw (← (sym (none_merged c.self.inside.plain c.self.inside.identified (c.is_empty-2.ensures.0 c.if-is_empty-2.true)) ∙ c.self.view_is)) c.push_values-then-is_empty-2.ensures
