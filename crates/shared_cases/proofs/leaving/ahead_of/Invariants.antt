use Rattle.std.proofs.Common.{◌≤◌, ◌-◌, length}
use Rattle.shared_cases.specs.Taking.{TakesOut}
use Rattle.shared_cases.proofs.leaving.ahead_of.Given as goal

abbrev pub invariant-loop-last : goal.invariant-loop-last
invariant-loop-last l = record {
  taken : TakesOut l.list l.number (length l.list - length l.left) l.left;
  fewer : length l.left ≤ length l.list;
}

abbrev pub decreases-loop-last : goal.decreases-loop-last
decreases-loop-last l = length l.left
