use Rattle.origin_model.proofs.SaidLemmas.{one_set}
use Rattle.origin_model.proofs.laws.changes_make_one_set.Goals as goal

pub returns : goal.returns
returns c = one_set
