use Rattle.std.proofs.Common.{◌≡◌, ◌++◌}
use Rattle.hop_index.proofs.index.push_each.Given as goal

abbrev pub invariant-loop-case : goal.invariant-loop-case
invariant-loop-case l = l.into.items ++ l.case-iterator ≡ l.fn.into.items ++ l.fn.cases
