use Rattle.std.proofs.Common.{ℕ, ◌<◌, ◌≤◌}
use Rattle.witness_checker.specs.Hops.{GoesDown}
use Rattle.witness_checker.proofs.fitting.descends_from.Given as goal

abbrev pub invariant-loop-k : goal.invariant-loop-k
invariant-loop-k g l = (k : ℕ) → l.start ≤ k → k < l.k → GoesDown l.silence (g.T.Table.rows l.table) l.chain k
