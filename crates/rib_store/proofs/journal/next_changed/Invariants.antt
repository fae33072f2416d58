use Rattle.std.proofs.Common.{◌≡◌, length}
use Rattle.std.specs.List.{filter_map}
use Rattle.rib_store.specs.ChangesLeft.{changed}
use Rattle.rib_store.proofs.journal.next_changed.Given as goal

abbrev pub invariant-loop-key : goal.invariant-loop-key
invariant-loop-key l = filter_map (changed l.routes l.cases) l.notes ≡ filter_map (changed l.routes l.cases) l.fn.notes

abbrev pub decreases-loop-key : goal.decreases-loop-key
decreases-loop-key l = length l.notes
