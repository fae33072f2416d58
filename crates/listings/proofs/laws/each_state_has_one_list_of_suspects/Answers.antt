use Rattle.listings.proofs.SuspectLemmas.{one_list_of_suspects}
use Rattle.listings.proofs.laws.each_state_has_one_list_of_suspects.Goals as goal

pub returns : goal.returns
returns c = one_list_of_suspects
