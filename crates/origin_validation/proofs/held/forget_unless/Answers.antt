use Rattle.origin_validation.proofs.PassLemmas.{payloads_next}
use Rattle.origin_validation.proofs.held.forget_unless.Goals as goal

pub loop-v-preserved : goal.loop-v-preserved
loop-v-preserved c = payloads_next c.args.some.now c.args.others.now c.loop-v.v-iterator c.next.new.self c.in-Some.v.now c.args.held.now.entries c.loop-v.held.entries c.forget_one.new.held.entries
    c.in-Some.ensures.steps c.loop-v.invariant c.forget_one.ensures
