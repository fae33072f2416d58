use Rattle.std.proofs.Common.{◌≡◌, ◌++◌}
use Rattle.std.specs.Map.{values_of}
use Rattle.route_map.proofs.peer_routes.PeerRoutes.push_each.Given as goal

-- the values that are there are followed by those to come
abbrev pub invariant-loop-value : goal.invariant-loop-value
invariant-loop-value g l = l.into.items ++ values_of l.value-iterator ≡ l.fn.into.items ++ values_of l.fn.self
