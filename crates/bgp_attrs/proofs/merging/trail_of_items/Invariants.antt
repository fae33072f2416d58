use Rattle.std.proofs.Common.{◌≡◌, ◌++◌, ◌||◌, drop}
use Rattle.bgp_attrs.specs.Merging.{has_set, ases_in}
use Rattle.bgp_attrs.proofs.merging.trail_of_items.Given as goal

abbrev pub invariant-loop-item : goal.invariant-loop-item
invariant-loop-item l = record {
  ases : l.numbers.items ++ ases_in (drop l.item-index l.items) ≡ ases_in l.items;
  set : (l.set || has_set (drop l.item-index l.items)) ≡ has_set l.items;
}
