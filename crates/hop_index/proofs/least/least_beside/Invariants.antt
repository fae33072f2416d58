use Rattle.std.proofs.Common.{take}
use Rattle.hop_index.specs.Least.{IsLeast}
use Rattle.hop_index.specs.Loose.{are_beside}
use Rattle.hop_index.proofs.least.least_beside.Given as goal

abbrev pub invariant-loop-case : goal.invariant-loop-case
invariant-loop-case l = IsLeast (are_beside (take l.case l.loose) l.x) l.from l.least
