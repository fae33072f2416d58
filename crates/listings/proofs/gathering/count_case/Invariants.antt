use Rattle.std.proofs.Common.{◌≡◌, ℕ, ◌-◌, ◌≤◌, length}
use Rattle.listings.specs.EachNeighbour.{went_at}
use Rattle.listings.proofs.WentLemmas.{counted_within}
use Rattle.listings.proofs.gathering.count_case.Given as goal

abbrev pub invariant-loop-k : goal.invariant-loop-k
invariant-loop-k l = record {
  counted : (y : ℕ) → went_at l.found.entries y ≡ counted_within l.chain l.asn y l.number l.case.users (l.k - 1) (went_at l.fn.found.entries y);
  within : l.k - 1 ≤ length l.chain - 1;
}
