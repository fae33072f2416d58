use Rattle.origin_model.proofs.PayloadLemmas.{none_are}
use Rattle.origin_model.proofs.vrp_set.VrpSet.new.Goals as goal

pub invariant_of-result : goal.invariant_of-result
invariant_of-result c = none_are c.new.result.keys c.new.ensures.empty
