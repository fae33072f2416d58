use Rattle.any_prefix.proofs.DoubleLemmas.{NoneBefore}
use Rattle.any_prefix.proofs.address.cut_double.Given as goal

abbrev pub invariant-loop-at : goal.invariant-loop-at
invariant-loop-at l = NoneBefore l.text l.at
