use Rattle.std.proofs.Common.{sym, subst}
use Rattle.rib_store.specs.Cased.{Numbered, marked_by}
use Rattle.rib_store.specs.Numbered.{AreNumbered}
use Rattle.rib_store.specs.Stored.{Stored}
use Rattle.rib_store.proofs.NumberedLemmas.{are_numbered}
use Rattle.rib_store.proofs.RouteLemmas.{state_by}
use Rattle.rib_store.proofs.store.RibStore.numbered.Goals as goal

pub returns-clause-routes : goal.returns-clause-routes
returns-clause-routes c =
    let s = c.self.inside in
    subst (λ (t : Stored). AreNumbered t.state t.cases c.iter.result) c.self.view_is
    (subst (λ (routes : Numbered). AreNumbered (state_by s.table s.roles s.routing.marks.is_marked s.routing.cases s.routing.routes s.routing.marks.notes) s.routing.cases routes)
    (sym c.iter.ensures.whole)
    (are_numbered s.table s.roles s.routing.routes s.routing.cases (marked_by s.routing.marks.is_marked s.routing.cases s.routing.routes s.routing.marks.notes) c.self.invariant.stored c.iter.ensures.in_order))
