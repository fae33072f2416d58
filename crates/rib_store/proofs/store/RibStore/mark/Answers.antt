use Rattle.std.proofs.Common.{true, sym, subst}
use Rattle.rib_store.specs.Cased.{Noted, marked_by}
use Rattle.rib_store.specs.Changes.{IsMarked}
use Rattle.rib_store.specs.Stored.{Stored}
use Rattle.rib_store.specs.Grounds.{grounds}
use Rattle.rib_store.proofs.MarksLemmas.{noted_marked}
use Rattle.rib_store.proofs.RouteLemmas.{state_by}
use Rattle.rib_store.proofs.StoredLemmas.{marked_stored}
use Rattle.rib_store.proofs.VerdictLemmas.{marked_state}
use Rattle.rib_store.proofs.store.RibStore.mark.Goals as goal

pub invariant_of-result : goal.invariant_of-result
invariant_of-result c = record {
  stored = marked_stored (grounds c.self.inside.table c.self.inside.roles) c.self.inside.routing.routes c.self.inside.routing.cases c.mark-cases.result c.self.invariant.stored c.mark-cases.ensures;
  marks = record {
    noted = noted_marked c.self.inside.routing.routes c.self.inside.routing.cases c.mark-cases.result c.new.result _ c.mark-cases.ensures;
    keys = c.self.invariant.marks.keys;
  };
}

pub returns : goal.returns
returns c =
    subst (λ (s : Stored). IsMarked s.state (state_by c.self.inside.table c.self.inside.roles true c.mark-cases.result c.self.inside.routing.routes c.new.result)) c.self.view_is
    (subst (λ (notes : Noted). IsMarked (state_by c.self.inside.table c.self.inside.roles c.self.inside.routing.marks.is_marked c.self.inside.routing.cases c.self.inside.routing.routes c.self.inside.routing.marks.notes)
    (state_by c.self.inside.table c.self.inside.roles true c.mark-cases.result c.self.inside.routing.routes notes)) (sym c.new.ensures)
    (marked_state c.self.inside.table c.self.inside.roles c.self.inside.routing.routes c.self.inside.routing.cases c.self.invariant.stored c.len-length.ensures.in_order c.mark-cases.result
    (marked_by c.self.inside.routing.marks.is_marked c.self.inside.routing.cases c.self.inside.routing.routes c.self.inside.routing.marks.notes) c.mark-cases.ensures))
