use Rattle.origin_model.proofs.PayloadLemmas.{last_before}
use Rattle.origin_model.proofs.vrp_set.VrpSet.prefix_before.Goals as goal

pub returns-clause-some : goal.returns-clause-some
returns-clause-some c =
    let range = c.range.ensures.in_range tt in
    let lies = range.3 c.in_ok-v.v.now c.next_back.new.self c.in_ok-v.ensures.steps in
    let last = range.4 c.in_ok-v.v.now c.next_back.new.self c.in_ok-v.ensures.steps in
    last_before c.args.prefix.now c.self.inside.members.keys c.args.self.now c.self.view_is c.self.invariant c.least_of.result c.in_ok-v.v.now c.least_of.ensures
    lies.1 lies.0.1 (λ q below held. last q (tt, below) held) c.prefix.result c.prefix.ensures
