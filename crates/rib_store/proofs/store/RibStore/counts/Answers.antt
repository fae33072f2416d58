use Rattle.std.proofs.Common.{sym, subst}
use Rattle.rib_store.specs.declared.counts.Counts.{Counts}
use Rattle.rib_store.specs.Cased.{marked_by}
use Rattle.rib_store.specs.Counts.{AreCounts}
use Rattle.rib_store.specs.Stored.{Stored}
use Rattle.rib_store.proofs.RouteLemmas.{state_by}
use Rattle.rib_store.proofs.TotalsLemmas.{stored_counts}
use Rattle.rib_store.proofs.store.RibStore.counts.Goals as goal

pub returns : goal.returns
returns c =
    subst (λ (s : Stored). AreCounts s.state c.of.result) c.self.view_is
    (subst (λ (counts : Counts). AreCounts (state_by c.self.inside.table c.self.inside.roles c.self.inside.routing.marks.is_marked c.self.inside.routing.cases c.self.inside.routing.routes c.self.inside.routing.marks.notes) counts) (sym c.of.ensures)
    (stored_counts c.self.inside.table c.self.inside.roles c.self.inside.routing.routes c.self.inside.routing.cases c.self.invariant.stored c.len.ensures.in_order
    (marked_by c.self.inside.routing.marks.is_marked c.self.inside.routing.cases c.self.inside.routing.routes c.self.inside.routing.marks.notes) c.len.result c.totals.result c.len.ensures.len c.totals.ensures))
