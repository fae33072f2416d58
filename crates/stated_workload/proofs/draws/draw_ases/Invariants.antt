use Rattle.stated_workload.specs.Draws.{DrawsAs, Adds}
use Rattle.stated_workload.proofs.draws.draw_ases.Given as goal

abbrev pub invariant-loop-turn : goal.invariant-loop-turn
invariant-loop-turn l = Adds (λ _. DrawsAs) l._turn l.fn.rng l.fn.list l.list l.rng
