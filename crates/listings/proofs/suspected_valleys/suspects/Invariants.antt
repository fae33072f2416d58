use Rattle.attestations.specs.ComputedTable.{table_of}
use Rattle.rib_store.specs.Pairs.{pairs_left}
use Rattle.valleys.specs.Order.{valley_cmp}
use Rattle.listings.proofs.SuspectLemmas.{test}
use Rattle.listings.proofs.TallyGatherLemmas.{Gathered}
use Rattle.listings.proofs.suspected_valleys.suspects.Given as goal

abbrev pub invariant-loop-pair : goal.invariant-loop-pair
invariant-loop-pair l = record {
  can : (goal.iterator-loop-pair).can_next l.pair-iterator;
  finite : (goal.iterator-loop-pair).is_finite l.pair-iterator;
  gathered : Gathered valley_cmp (test (table_of l.store.state.parts)) l.store.state (pairs_left l.pair-iterator) l.found;
}
