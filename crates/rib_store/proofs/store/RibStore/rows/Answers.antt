use Rattle.std.proofs.Common.{arith, sym, subst}
use Rattle.shared_cases.specs.Cases.{verdict_or}
use Rattle.rib_store.specs.Cased.{Numbered, marked_by, through}
use Rattle.rib_store.specs.State.{AreRows}
use Rattle.rib_store.specs.Stored.{Stored}
use Rattle.rib_store.proofs.CasedLemmas.{through_length}
use Rattle.rib_store.proofs.RouteLemmas.{state_by}
use Rattle.rib_store.proofs.VerdictLemmas.{stored_rows}
use Rattle.rib_store.proofs.store.RibStore.rows.Goals as goal

pub returns-clause-rows : goal.returns-clause-rows
returns-clause-rows c =
    subst (λ (s : Stored). AreRows s.state (through verdict_or c.self.inside.routing.cases c.iter.result)) c.self.view_is
    (subst (λ (routes : Numbered). AreRows (state_by c.self.inside.table c.self.inside.roles c.self.inside.routing.marks.is_marked c.self.inside.routing.cases c.self.inside.routing.routes c.self.inside.routing.marks.notes) (through verdict_or c.self.inside.routing.cases routes))
    (sym c.iter.ensures.whole)
    (stored_rows c.self.inside.table c.self.inside.roles c.self.inside.routing.routes c.self.inside.routing.cases c.self.invariant.stored c.iter.ensures.in_order
    (marked_by c.self.inside.routing.marks.is_marked c.self.inside.routing.cases c.self.inside.routing.routes c.self.inside.routing.marks.notes)))

pub returns-clause-few : goal.returns-clause-few
returns-clause-few c = omega (arith, through_length verdict_or c.self.inside.routing.cases c.iter.result, c.iter.ensures.few)
