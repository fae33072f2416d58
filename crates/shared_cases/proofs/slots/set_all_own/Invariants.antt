use Rattle.shared_cases.specs.Numbers.{has}
use Rattle.shared_cases.specs.Owning.{owned}
use Rattle.shared_cases.proofs.KeptLemmas.{IsDoing}
use Rattle.shared_cases.proofs.slots.set_all_own.Given as goal

abbrev pub invariant-loop-number : goal.invariant-loop-number
invariant-loop-number l = IsDoing owned (has l.numbers) l.fn.slab.slots l.slab.slots l.number-iterator
