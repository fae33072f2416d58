use Rattle.rib_store.proofs.MarkLemmas.{has_one_marking}
use Rattle.rib_store.proofs.laws.each_state_has_one_marking.Goals as goal

pub returns : goal.returns
returns c = has_one_marking
