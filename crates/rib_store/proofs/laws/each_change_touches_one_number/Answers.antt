use Rattle.rib_store.proofs.NumberLemmas.{has_one_touched_number}
use Rattle.rib_store.proofs.laws.each_change_touches_one_number.Goals as goal

pub returns : goal.returns
returns c = has_one_touched_number
