use Rattle.std.proofs.Common.{◌≡◌, ◌+◌, length}
use Rattle.rib_store.specs.ChangesLeft.{changes_left}
use Rattle.stated_workload.proofs.performing.count_changes.Given as goal

abbrev pub invariant-loop-change : goal.invariant-loop-change
invariant-loop-change l = l.count + length (changes_left l._change-iterator) ≡ length (changes_left l.fn.journal)
