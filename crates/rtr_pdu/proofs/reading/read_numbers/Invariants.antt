use Rattle.rtr_pdu.proofs.NumberLemmas.{NumbersSoFar}
use Rattle.rtr_pdu.proofs.reading.read_numbers.Given as goal

abbrev pub invariant-loop-k : goal.invariant-loop-k
invariant-loop-k l = NumbersSoFar l.bytes l.numbers l.k
