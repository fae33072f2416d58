use Rattle.std.proofs.Common.{ap, arith, length, sym, subst}
use Rattle.std.specs.List.{filter_map}
use Rattle.rib_store.specs.Cased.{Numbered, marked_by}
use Rattle.rib_store.specs.Shown.{AreShown}
use Rattle.rib_store.specs.ShownLeft.{shown_at}
use Rattle.rib_store.specs.Stored.{Stored}
use Rattle.rib_store.proofs.RouteLemmas.{state_by}
use Rattle.rib_store.proofs.ShownLemmas.{all_shown, shown_length}
use Rattle.rib_store.proofs.store.RibStore.shown.Goals as goal

pub returns-clause-rows : goal.returns-clause-rows
returns-clause-rows c =
    let s = c.self.inside in
    subst (λ (t : Stored). AreShown t.state (filter_map (shown_at s.routing.cases s.roles) c.iter.result)) c.self.view_is
    (subst (λ (routes : Numbered). AreShown (state_by s.table s.roles s.routing.marks.is_marked s.routing.cases s.routing.routes s.routing.marks.notes) (filter_map (shown_at s.routing.cases s.roles) routes))
    (sym c.iter.ensures.whole)
    (all_shown s.table s.roles s.routing.routes s.routing.cases (marked_by s.routing.marks.is_marked s.routing.cases s.routing.routes s.routing.marks.notes) c.self.invariant.stored c.iter.ensures.in_order))

pub returns-clause-few : goal.returns-clause-few
returns-clause-few c =
    let s = c.self.inside in
    let same = ap (λ (routes : Numbered). length (filter_map (shown_at s.routing.cases s.roles) routes)) c.iter.ensures.whole in
    let long = shown_length s.table s.roles s.routing.routes s.routing.cases (marked_by s.routing.marks.is_marked s.routing.cases s.routing.routes s.routing.marks.notes) c.self.invariant.stored c.iter.ensures.in_order in
    omega (arith, same, long, ap (λ (routes : Numbered). length routes) c.iter.ensures.whole, c.iter.ensures.few)
