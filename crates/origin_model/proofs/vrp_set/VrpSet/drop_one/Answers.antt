use Rattle.origin_model.proofs.PayloadLemmas.{fewer_are}
use Rattle.origin_model.proofs.vrp_set.VrpSet.drop_one.Goals as goal

pub invariant_of-self : goal.invariant_of-self
invariant_of-self c = fewer_are c.self.inside.members.keys c.remove.new.self.keys c.args.v.now c.remove.ensures.updates.0 c.self.invariant
