use Rattle.std.proofs.Common.{take}
use Rattle.aspa_payload.specs.Writing.{PutsIntegers}
use Rattle.aspa_payload.proofs.writing.put_integers.Given as goal

abbrev pub invariant-loop-number : goal.invariant-loop-number
invariant-loop-number l = PutsIntegers l.fn.out.items l.out.items (take l.number-index l.numbers)
