use Rattle.origin_validation.proofs.PatchLemmas.{apply_next}
use Rattle.origin_validation.proofs.changes.apply.Goals as goal

pub loop-v-preserved : goal.loop-v-preserved
loop-v-preserved c = apply_next c.args.changes.now c.loop-v.v-iterator c.next.new.self c.in-Some.v.now c.in-Some.announced c.args.set.now c.loop-v.set c.apply_one.new.set
    c.in-Some.ensures.steps c.loop-v.invariant c.in_ok-apply_one.ensures
