use Rattle.hop_index.proofs.GoneLemmas.{one_gone}
use Rattle.hop_index.proofs.lists.remove_gone.Goals as goal

pub loop-k-preserved : goal.loop-k-preserved
loop-k-preserved c = record {
  removed =
      one_gone c.args.hops.now c.loop-k.hops c.remove.new.hops c.args.gone.now c.loop-k.k _
      c.loop-k-test.true c.loop-k.invariant.removed c.remove.ensures.removed;
  kept = λ kept. c.remove.ensures.kept (c.loop-k.invariant.kept kept);
}
