use Rattle.std.proofs.Common.{subst}
use Rattle.rib_store.specs.Sharing.{AreCasesOf}
use Rattle.rib_store.specs.Stored.{Stored}
use Rattle.rib_store.proofs.SharingLemmas.{are_cases}
use Rattle.rib_store.proofs.store.RibStore.cases_are_those_of_the_routes.Goals as goal

pub returns : goal.returns
returns c =
    subst (λ (s : Stored). AreCasesOf s.state s.cases) c.self.view_is
    (are_cases c.self.inside.table c.self.inside.roles c.self.inside.routing.marks.is_marked c.self.inside.routing.routes c.self.inside.routing.cases c.self.inside.routing.marks.notes c.self.invariant.stored c.len-length.ensures.in_order c.are_distinct.ensures)
