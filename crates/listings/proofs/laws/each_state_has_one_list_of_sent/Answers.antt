use Rattle.listings.proofs.SentLemmas.{one_list_of_sent}
use Rattle.listings.proofs.laws.each_state_has_one_list_of_sent.Goals as goal

pub returns : goal.returns
returns c = one_list_of_sent
