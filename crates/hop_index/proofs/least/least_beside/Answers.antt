use Rattle.std.proofs.Common.{[], take, get_or, arith}
use Rattle.hop_index.specs.Hops.{has_hop}
use Rattle.hop_index.specs.Loose.{are_beside}
use Rattle.hop_index.proofs.LeastLemmas.{chain_more}
use Rattle.hop_index.proofs.least.least_beside.Goals as goal

pub loop-case-preserved : goal.loop-case-preserved
loop-case-preserved c =
    chain_more c.args.loose.now c.loop-case.case [] c.args.x c.args.from c.lesser-least.result (omega (arith, c.loop-case-test.true, c.len-case-end.ensures))
    (c.lesser-least.ensures (are_beside (take c.loop-case.case c.args.loose.now) c.args.x) (has_hop (get_or c.args.loose.now c.loop-case.case []) c.args.x)
    c.args.from c.loop-case.invariant (rw c.get.ensures at c.least_in.ensures))
