use Rattle.std.proofs.Common.{ap, subst, sym, ◌∙◌}
use Rattle.shared_cases.specs.Cases.{Slots}
use Rattle.rib_store.specs.Grounds.{grounds}
use Rattle.rib_store.specs.Marks.{AreSound}
use Rattle.rib_store.specs.Stored.{Stored}
use Rattle.rib_store.proofs.EventLemmas.{gathered_sound, noted_state}
use Rattle.rib_store.proofs.RouteLemmas.{state_by}
use Rattle.rib_store.proofs.store.RibStore.gather.Goals as goal

pub invariant_of-result : goal.invariant_of-result
invariant_of-result c =
    subst (λ (cases : Slots). AreSound (grounds c.self.inside.table c.self.inside.roles) c.self.inside.routing.routes cases c.gather.new.self) (sym c.list_hops.ensures)
    (gathered_sound (grounds c.self.inside.table c.self.inside.roles) c.self.inside.routing.routes c.self.inside.routing.cases c.self.inside.routing.marks c.gather.new.self c.self.invariant
    c.in_ok-gather.ensures.told c.in_ok-gather.ensures.covered c.in_ok-gather.ensures.keys c.in_ok-gather.ensures.pending c.gather.ensures.same)

pub returns : goal.returns
returns c =
    let stored_by : Slots → Stored = λ cases. record {
      state = state_by c.self.inside.table c.self.inside.roles c.gather.new.self.is_marked cases c.self.inside.routing.routes c.gather.new.self.notes;
      cases = cases;
    } in
    ap stored_by c.list_hops.ensures
    ∙ (λ i. record {
      state = noted_state c.self.inside.table c.self.inside.roles c.self.inside.routing.marks.is_marked c.gather.new.self.is_marked c.self.inside.routing.routes c.self.inside.routing.cases c.self.inside.routing.marks.notes c.gather.new.self.notes
          c.in_ok-gather.ensures.told c.gather.ensures.same i;
      cases = c.self.inside.routing.cases;
    })
    ∙ c.self.view_is
