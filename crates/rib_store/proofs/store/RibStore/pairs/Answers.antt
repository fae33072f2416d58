use Rattle.std.proofs.Common.{arith, sym, subst}
use Rattle.std.specs.Prelude.{List, map}
use Rattle.std.proofs.lemmas.List.{length-map}
use Rattle.shared_cases.specs.Listed.{Listed}
use Rattle.rib_store.specs.Cased.{marked_by}
use Rattle.rib_store.specs.Pairs.{paired_by, ArePairs}
use Rattle.rib_store.specs.Stored.{Stored}
use Rattle.rib_store.proofs.PairLemmas.{are_pairs}
use Rattle.rib_store.proofs.RouteLemmas.{state_by}
use Rattle.rib_store.proofs.store.RibStore.pairs.Goals as goal

pub returns-clause-pairs : goal.returns-clause-pairs
returns-clause-pairs c =
    let s = c.self.inside in
    subst (λ (t : Stored). ArePairs t.state (map (paired_by s.roles) c.iter.result)) c.self.view_is
    (subst (λ (ls : List Listed). ArePairs (state_by s.table s.roles s.routing.marks.is_marked s.routing.cases s.routing.routes s.routing.marks.notes) (map (paired_by s.roles) ls))
    (sym c.iter.ensures.cases)
    (are_pairs s.table s.roles s.routing.routes s.routing.cases c.self.invariant.stored c.are_distinct.ensures c.len-length.ensures.in_order
    (marked_by s.routing.marks.is_marked s.routing.cases s.routing.routes s.routing.marks.notes)))

pub returns-clause-few : goal.returns-clause-few
returns-clause-few c = omega (arith, length-map c.iter.result (paired_by c.self.inside.roles), c.iter.ensures.few)
