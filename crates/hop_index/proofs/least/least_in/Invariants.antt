use Rattle.std.proofs.Common.{◌-◌, ◌≤◌, length}
use Rattle.hop_index.specs.Hops.{joins_within}
use Rattle.hop_index.specs.Least.{IsLeast}
use Rattle.hop_index.proofs.least.least_in.Given as goal

abbrev pub invariant-loop-k : goal.invariant-loop-k
invariant-loop-k l = record {
  least : IsLeast (joins_within (l.k - 1) l.chain l.x) l.from l.least;
  within : l.k - 1 ≤ length l.chain - 1;
}
