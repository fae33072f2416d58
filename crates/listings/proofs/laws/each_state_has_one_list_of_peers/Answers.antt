use Rattle.listings.proofs.PeersLemmas.{one_list_of_peers}
use Rattle.listings.proofs.laws.each_state_has_one_list_of_peers.Goals as goal

pub returns : goal.returns
returns c = one_list_of_peers
