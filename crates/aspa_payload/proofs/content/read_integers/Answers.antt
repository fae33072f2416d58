use Rattle.aspa_payload.proofs.ReadingLemmas.{empty_if, some_if}
use Rattle.std.proofs.Common.{refl}
use Rattle.aspa_payload.proofs.IntegersLemmas.{so_far_next, so_far_refused, so_far_end}
use Rattle.aspa_payload.proofs.content.read_integers.Goals as goal

pub returns-in_default : goal.returns-in_default
returns-in_default c = (refl, so_far_refused c.args.bytes.now c.loop-rest.rest.now c.loop-rest.list c.loop-rest.invariant (some_if _ c.is_empty.result c.is_empty.ensures c.loop-rest-test.true) c.in_default.ensures.none)

pub loop-rest-preserved : goal.loop-rest-preserved
loop-rest-preserved c = rw c.in_ok-push.ensures.ok (so_far_next c.args.bytes.now c.loop-rest.rest.now c.loop-rest.list c.in-Ok.more.now c.in-Ok.number c.loop-rest.invariant c.in-Ok.ensures.integer)

pub returns : goal.returns
returns c = so_far_end c.args.bytes.now c.loop-rest.rest.now c.loop-rest.list c.loop-rest.invariant (empty_if _ c.is_empty.result c.is_empty.ensures c.loop-rest-test.false)
