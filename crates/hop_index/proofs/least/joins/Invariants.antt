use Rattle.std.proofs.Common.{◌≡◌, false, ◌-◌, ◌≤◌, length}
use Rattle.hop_index.specs.Hops.{joins_within}
use Rattle.hop_index.proofs.least.joins.Given as goal

abbrev pub invariant-loop-k : goal.invariant-loop-k
invariant-loop-k l = record {
  none : joins_within (l.k - 1) l.chain l.x l.y ≡ false;
  within : l.k - 1 ≤ length l.chain - 1;
}
