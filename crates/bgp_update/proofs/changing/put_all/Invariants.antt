use Rattle.std.proofs.Common.{◌≡◌, ◌++◌}
use Rattle.bgp_attrs.specs.Left.{prefixes_left}
use Rattle.bgp_update.proofs.changing.put_all.Given as goal

abbrev pub invariant-loop-nlri : goal.invariant-loop-nlri
invariant-loop-nlri l = l.list ++ prefixes_left l.nlri-iterator ≡ l.fn.list ++ prefixes_left l.prefixes
