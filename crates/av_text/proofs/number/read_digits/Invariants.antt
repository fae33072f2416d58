use Rattle.std.proofs.Common.{take}
use Rattle.av_text.proofs.NumberLemmas.{IsReadSoFar}
use Rattle.av_text.proofs.number.read_digits.Given as goal

abbrev pub invariant-loop-byte : goal.invariant-loop-byte
invariant-loop-byte l = IsReadSoFar (take l.byte-index l.text) l.value
