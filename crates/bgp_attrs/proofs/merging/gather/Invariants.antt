use Rattle.std.proofs.Common.{◌≡◌, ◌++◌}
use Rattle.bgp_attrs.specs.Left.{segments_left}
use Rattle.bgp_attrs.specs.Merging.{items_in}
use Rattle.bgp_attrs.proofs.merging.gather.Given as goal

abbrev pub invariant-loop-segment : goal.invariant-loop-segment
invariant-loop-segment l = l.items.items ++ items_in (segments_left l.segment-iterator) ≡ items_in (segments_left l.path)
