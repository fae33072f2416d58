use Rattle.std.proofs.Common.{refl, arith, rules}
use Rattle.hop_index.specs.Lists.{has}
use Rattle.hop_index.proofs.IndexLemmas.{step_in}
use Rattle.hop_index.proofs.lists.insert_all.Goals as goal

pub loop-k-preserved : goal.loop-k-preserved
loop-k-preserved c = record {
  added =
      step_in c.loop-k.k c.args.case c.args.chain.now (has c.args.hops.now) (has c.loop-k.hops) (has c.insert.new.hops)
      _ _ (omega arith) refl refl c.loop-k.invariant.added (search rules);
  kept = λ kept. c.in_ok-insert.ensures.kept (c.loop-k.invariant.kept kept);
  within = omega (arith, c.loop-k-test.true);
}
