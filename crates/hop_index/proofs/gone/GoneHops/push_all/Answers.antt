use Rattle.std.proofs.Common.{refl, arith, rules}
use Rattle.hop_index.specs.Gone.{has_gone}
use Rattle.hop_index.proofs.IndexLemmas.{step_in}
use Rattle.hop_index.proofs.gone.GoneHops.push_all.Goals as goal

pub loop-k-preserved : goal.loop-k-preserved
loop-k-preserved c = record {
  gathered =
      step_in c.loop-k.k c.args.case c.args.chain.now (has_gone c.args.self.now) (has_gone c.loop-k.self) (has_gone c.push_one.new.self)
      _ _ (omega arith) refl refl c.loop-k.invariant.gathered (search rules);
  within = omega (arith, c.loop-k-test.true);
}
