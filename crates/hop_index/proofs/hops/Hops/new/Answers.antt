use Rattle.hop_index.proofs.PlaceLemmas.{none_placed}
use Rattle.hop_index.proofs.hops.Hops.new.Goals as goal

pub invariant_of-result : goal.invariant_of-result
invariant_of-result c = none_placed c.new.result c.new-2.result.items c.new.ensures c.new-2.ensures.items
