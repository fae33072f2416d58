use Rattle.stated_workload.specs.Draws.{Adds}
use Rattle.stated_workload.specs.Workload.{DrawsAmendment}
use Rattle.stated_workload.proofs.amendments.add_amendments.Given as goal

abbrev pub invariant-loop-turn : goal.invariant-loop-turn
invariant-loop-turn l = Adds (λ _. DrawsAmendment) l._turn l.fn.rng l.fn.events.items l.events.items l.rng
