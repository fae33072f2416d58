use Rattle.std.proofs.Common.{◌≡◌, ◌++◌}
use Rattle.bgp_attrs.specs.Left.{ases_left}
use Rattle.bgp_attrs.proofs.merging.put_sequence.Given as goal

abbrev pub invariant-loop-asn : goal.invariant-loop-asn
invariant-loop-asn l = l.numbers.items ++ ases_left l.asn-iterator ≡ l.fn.numbers.items ++ ases_left l.ases
