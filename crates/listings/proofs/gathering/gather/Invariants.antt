use Rattle.std.proofs.Common.{ℕ, drop}
use Rattle.listings.specs.EachNeighbour.{went_at}
use Rattle.listings.proofs.GatherLemmas.{Counting}
use Rattle.listings.proofs.gathering.gather.Given as goal

abbrev pub invariant-loop-number : goal.invariant-loop-number
invariant-loop-number l = (y : ℕ) → Counting l.store.cases l.asn y l.number-items (drop l.number-index l.number-items) (went_at l.found.entries y)
