use Rattle.std.proofs.Common.{◌-◌, refl, arith}
use Rattle.hop_index.specs.Hops.{joins_within}
use Rattle.hop_index.proofs.LeastLemmas.{hop_more}
use Rattle.hop_index.proofs.least.least_in.Goals as goal

pub loop-k-preserved : goal.loop-k-preserved
loop-k-preserved c = record {
  least = hop_more c.loop-k.k c.args.chain.now c.args.x c.args.from c.lesser-least.result _ _ (omega arith) refl refl
      (c.lesser-least.ensures (joins_within (c.loop-k.k - 1) c.args.chain.now c.args.x) _ c.args.from c.loop-k.invariant.least c.least_of.ensures);
  within = omega (arith, c.loop-k-test.true);
}
