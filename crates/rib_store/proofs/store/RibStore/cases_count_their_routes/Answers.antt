use Rattle.std.proofs.Common.{subst}
use Rattle.rib_store.specs.Cased.{marked_by}
use Rattle.rib_store.specs.Sharing.{CountTheirRoutes}
use Rattle.rib_store.specs.Stored.{Stored}
use Rattle.rib_store.proofs.NumberedLemmas.{count_theirs}
use Rattle.rib_store.proofs.store.RibStore.cases_count_their_routes.Goals as goal

pub returns : goal.returns
returns c =
    let s = c.self.inside in
    subst (λ (t : Stored). CountTheirRoutes t.state.routes t.cases) c.self.view_is
    (count_theirs s.table s.roles s.routing.routes s.routing.cases (marked_by s.routing.marks.is_marked s.routing.cases s.routing.routes s.routing.marks.notes)
    c.self.invariant.stored c.len-length.ensures.in_order c.are_distinct.ensures)
