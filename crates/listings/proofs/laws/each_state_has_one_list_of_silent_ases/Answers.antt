use Rattle.listings.proofs.SilentLemmas.{one_list_of_silent_ases}
use Rattle.listings.proofs.laws.each_state_has_one_list_of_silent_ases.Goals as goal

pub returns : goal.returns
returns c = one_list_of_silent_ases
