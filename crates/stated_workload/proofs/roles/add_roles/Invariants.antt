use Rattle.std.proofs.Common.{◌≡◌, ◌++◌}
use Rattle.stated_workload.specs.Workload.{role_events}
use Rattle.stated_workload.proofs.roles.add_roles.Given as goal

abbrev pub invariant-loop-q : goal.invariant-loop-q
invariant-loop-q l = l.events.items ≡ l.fn.events.items ++ role_events l.q
