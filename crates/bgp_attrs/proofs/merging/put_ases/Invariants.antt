use Rattle.std.proofs.Common.{◌≡◌, ◌++◌, map}
use Rattle.bgp_attrs.specs.declared.items.Item.TheVariants.{As}
use Rattle.bgp_attrs.specs.Left.{ases_left}
use Rattle.bgp_attrs.proofs.merging.put_ases.Given as goal

abbrev pub invariant-loop-asn : goal.invariant-loop-asn
invariant-loop-asn l = l.items.items ++ map As (ases_left l.asn-iterator) ≡ l.fn.items.items ++ map As (ases_left l.ases)
