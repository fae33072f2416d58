use Rattle.std.specs.Vec.Iter.{into_iter_items}
use Rattle.stated_workload.specs.Happening.{HappenedBefore}
use Rattle.stated_workload.proofs.happening.happen_all.Given as goal

abbrev pub invariant-loop-event : goal.invariant-loop-event
invariant-loop-event g l = HappenedBefore l.fn.analyser l.analyser l.fn.events.items (into_iter_items l.event-iterator)
