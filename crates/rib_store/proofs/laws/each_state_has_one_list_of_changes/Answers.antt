use Rattle.rib_store.proofs.ChangeLawLemmas.{has_one_list_of_changes}
use Rattle.rib_store.proofs.laws.each_state_has_one_list_of_changes.Goals as goal

pub returns : goal.returns
returns c = has_one_list_of_changes
