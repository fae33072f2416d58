use Rattle.listings.proofs.DetailsLemmas.{one_list_of_details}
use Rattle.listings.proofs.laws.each_state_has_one_list_of_details.Goals as goal

pub returns : goal.returns
returns c = one_list_of_details
