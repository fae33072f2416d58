use Rattle.vap_table.proofs.SteppingLemmas.{repeats_next}
use Rattle.vap_table.proofs.stepping.behind.Goals as goal

pub loop-first-preserved : goal.loop-first-preserved
loop-first-preserved c = repeats_next c.args.number c.args.list.now c.loop-first.left.now c.in-Some.more.now c.in-Some.first.now c.in-Some.ensures.cases.0 c.if-first-number.false c.loop-first.invariant
