use Rattle.std.proofs.Common.{arith}
use Rattle.listings.specs.EachNeighbour.{went_at}
use Rattle.listings.proofs.WentLemmas.{hop_counted}
use Rattle.listings.proofs.gathering.count_case.Goals as goal

pub loop-k-preserved : goal.loop-k-preserved
loop-k-preserved c = record {
  counted = λ y. hop_counted c.as_slice-chain.result.now c.args.asn y c.args.number c.in-Some.case.users c.loop-k.k (went_at c.args.found.now.entries y)
      (went_at c.loop-k.found.entries y) (went_at c.count_hop.new.found.entries y) (omega arith) (c.loop-k.invariant.counted y) (c.in_ok-count_hop.ensures y);
  within = omega arith;
}
