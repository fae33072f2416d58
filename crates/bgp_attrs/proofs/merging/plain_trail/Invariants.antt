use Rattle.std.proofs.Common.{◌≡◌, ◌++◌, ◌||◌}
use Rattle.bgp_attrs.specs.Left.{segments_left}
use Rattle.bgp_attrs.specs.Merging.{items_in, has_set, ases_in}
use Rattle.bgp_attrs.proofs.merging.plain_trail.Given as goal

abbrev pub invariant-loop-segment : goal.invariant-loop-segment
invariant-loop-segment l = record {
  ases : l.numbers.items ++ ases_in (items_in (segments_left l.segment-iterator)) ≡ ases_in (items_in (segments_left l.path));
  set : (l.set || has_set (items_in (segments_left l.segment-iterator))) ≡ has_set (items_in (segments_left l.path));
}
