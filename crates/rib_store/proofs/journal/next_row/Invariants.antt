use Rattle.std.proofs.Common.{◌≡◌, length}
use Rattle.std.specs.List.{filter_map}
use Rattle.rib_store.specs.ChangesLeft.{row_change}
use Rattle.rib_store.specs.Merge.{merged_left}
use Rattle.rib_store.proofs.journal.next_row.Given as goal

abbrev pub invariant-loop-key : goal.invariant-loop-key
invariant-loop-key l = filter_map (row_change l.is_marked l.cases) (merged_left l.merged) ≡ filter_map (row_change l.is_marked l.cases) (merged_left l.fn.merged)

abbrev pub decreases-loop-key : goal.decreases-loop-key
decreases-loop-key l = length (merged_left l.merged)
