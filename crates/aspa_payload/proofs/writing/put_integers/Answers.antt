use Rattle.std.proofs.Common.{refl}
use Rattle.aspa_payload.proofs.WritingLemmas.{puts_next}
use Rattle.aspa_payload.proofs.writing.put_integers.Goals as goal

pub loop-number-preserved : goal.loop-number-preserved
loop-number-preserved c = puts_next c.args.out.now.items c.loop-number.out.items c.put_u32.new.out.items c.args.numbers.now c.loop-number.number-index _ c.loop-number-test.true refl c.loop-number.invariant c.in_ok-put_u32.ensures.ok
