use Rattle.std.proofs.Common.{◌≡◌, length}
use Rattle.std.specs.List.{filter_map}
use Rattle.rib_store.specs.ShownLeft.{shown_at}
use Rattle.rib_store.proofs.shown_rows.ShownRowsIterator.next.Given as goal

abbrev pub invariant-loop-key : goal.invariant-loop-key
invariant-loop-key l = filter_map (shown_at l.self.cases.now l.self.roles.now) l.self.rest ≡ filter_map (shown_at l.fn.self.cases.now l.fn.self.roles.now) l.fn.self.rest

abbrev pub decreases-loop-key : goal.decreases-loop-key
decreases-loop-key l = length l.self.rest
