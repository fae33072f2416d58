use Rattle.std.proofs.Common.{arith}
use Rattle.hop_index.proofs.ListLemmas.{next_dropped, taken_over}
use Rattle.hop_index.proofs.chunked.of.Goals as goal

pub loop-number-preserved : goal.loop-number-preserved
loop-number-preserved c = rw c.in_ok-insert.ensures.inserted (
    taken_over c.loop-number.chunked _ _ c.args.numbers.now c.loop-number.number-index _ (omega arith) c.requires.rising c.loop-number.invariant
    (next_dropped c.args.numbers.now c.loop-number.number-index _ c.loop-number-test.true)
    )
