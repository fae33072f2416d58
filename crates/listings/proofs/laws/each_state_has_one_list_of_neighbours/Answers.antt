use Rattle.listings.proofs.NeighbourLemmas.{one_list_of_neighbours}
use Rattle.listings.proofs.laws.each_state_has_one_list_of_neighbours.Goals as goal

pub returns : goal.returns
returns c = one_list_of_neighbours
