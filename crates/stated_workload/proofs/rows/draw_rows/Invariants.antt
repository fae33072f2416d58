use Rattle.stated_workload.specs.Rows.{DrawsRows}
use Rattle.stated_workload.proofs.rows.draw_rows.Given as goal

abbrev pub invariant-loop-done : goal.invariant-loop-done
invariant-loop-done l = DrawsRows l.done l.fn.rng l.rows l.rng
