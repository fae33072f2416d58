use Rattle.std.proofs.Common.{refl, arith, rules}
use Rattle.hop_index.specs.Lists.{has}
use Rattle.hop_index.proofs.IndexLemmas.{step_out}
use Rattle.hop_index.proofs.lists.remove_all.Goals as goal

pub loop-k-preserved : goal.loop-k-preserved
loop-k-preserved c = record {
  removed =
      step_out c.loop-k.k c.args.case c.args.chain.now (has c.args.hops.now) (has c.loop-k.hops) (has c.remove.new.hops)
      _ _ (omega arith) refl refl c.loop-k.invariant.removed (search rules);
  kept = λ kept. c.remove.ensures.kept (c.loop-k.invariant.kept kept);
  within = omega (arith, c.loop-k-test.true);
}
