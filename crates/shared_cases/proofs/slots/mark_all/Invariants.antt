use Rattle.std.proofs.Common.{drop}
use Rattle.shared_cases.specs.Cases.{marked_now}
use Rattle.shared_cases.specs.Numbers.{has}
use Rattle.shared_cases.proofs.KeptLemmas.{IsDoing}
use Rattle.shared_cases.proofs.slots.mark_all.Given as goal

abbrev pub invariant-loop-number : goal.invariant-loop-number
invariant-loop-number l = IsDoing marked_now (has l.differed) l.fn.slab.slots l.slab.slots (drop l.number-index l.number-items)
