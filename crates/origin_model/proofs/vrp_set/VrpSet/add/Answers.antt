use Rattle.std.proofs.Common.{◌||◌, List, ap, ◌∙◌}
use Rattle.std.specs.BTreeMap.{is_at}
use Rattle.origin_model.specs.Vrp.{Payload, payload_cmp}
use Rattle.origin_model.specs.VrpSet.{has}
use Rattle.origin_model.proofs.PayloadLemmas.{or_cond, more_are}
use Rattle.origin_model.proofs.vrp_set.VrpSet.add.Goals as goal

pub invariant_of-self-2 : goal.invariant_of-self-2
invariant_of-self-2 c = more_are c.self.inside.members.keys c.insert.new.self.keys c.args.v c.max-max.ensures.is_payload c.in_ok-insert.ensures.updates.0 c.self.invariant

pub returns-clause-gains : goal.returns-clause-gains
returns-clause-gains c = λ q. c.in_ok-insert.ensures.updates.0 q ∙ or_cond (is_at (payload_cmp c.args.v) q) (has c.self.inside.members.keys q)
    ∙ ap (λ (vs : List Payload). is_at (payload_cmp c.args.v) q || has vs q) c.self.view_is
