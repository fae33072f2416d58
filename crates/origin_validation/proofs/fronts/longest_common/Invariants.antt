use Rattle.std.proofs.Common.{◌≤◌}
use Rattle.origin_validation.proofs.FrontLemmas.{AreShorter}
use Rattle.origin_validation.proofs.fronts.longest_common.Given as goal

abbrev pub invariant-loop-len : goal.invariant-loop-len
invariant-loop-len l = record {
  shorter : AreShorter l.one l.other l.end l.len;
  within : l.len ≤ l.end;
}

abbrev pub decreases-loop-len : goal.decreases-loop-len
decreases-loop-len l = l.len
