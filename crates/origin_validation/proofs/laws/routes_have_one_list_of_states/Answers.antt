use Rattle.origin_validation.proofs.RowLemmas.{has_one_list}
use Rattle.origin_validation.proofs.laws.routes_have_one_list_of_states.Goals as goal

pub returns : goal.returns
returns c = has_one_list
