use Rattle.hop_index.proofs.CaseLemmas.{none_rise}
use Rattle.hop_index.proofs.numbers.Numbers.new.Goals as goal

pub invariant_of-result : goal.invariant_of-result
invariant_of-result c = none_rise
