use Rattle.origin_validation.proofs.PatchLemmas.{changes_next}
use Rattle.origin_validation.proofs.held.forget_changed.Goals as goal

pub loop-v-preserved : goal.loop-v-preserved
loop-v-preserved c = changes_next c.args.before.now c.args.changes.now c.loop-v.v-iterator c.next.new.self c.in-Some.v.now c.in-Some.announced c.args.held.now.entries c.loop-v.held.entries
    c.forget_said.new.held.entries c.in-Some.ensures.steps c.loop-v.invariant c.forget_said.ensures
