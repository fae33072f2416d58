use Rattle.std.proofs.Common.{◌≡◌, ◌++◌, drop}
use Rattle.rtr_pdu.specs.Spelled.{spelled_numbers}
use Rattle.rtr_pdu.proofs.writing.put_numbers.Given as goal

abbrev pub invariant-loop-number : goal.invariant-loop-number
invariant-loop-number l = l.out.items ++ spelled_numbers (drop l.number-index l.numbers) ≡ l.fn.out.items ++ spelled_numbers l.numbers
