use Rattle.hop_index.proofs.HopLemmas.{hops_are_told}
use Rattle.hop_index.proofs.laws.hops_join_neighbours.Goals as goal

pub returns : goal.returns
returns c = hops_are_told
