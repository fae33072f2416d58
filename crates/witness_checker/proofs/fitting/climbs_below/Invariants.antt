use Rattle.std.proofs.Common.{ℕ, ◌<◌}
use Rattle.witness_checker.specs.Hops.{GoesUp}
use Rattle.witness_checker.proofs.fitting.climbs_below.Given as goal

abbrev pub invariant-loop-k : goal.invariant-loop-k
invariant-loop-k g l = (k : ℕ) → k < l.k → GoesUp l.silence (g.T.Table.rows l.table) l.chain k
