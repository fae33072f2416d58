use Rattle.std.proofs.Common.{◌≡◌, ◌-◌, ap, subst, ◌∙◌}
use Rattle.attestations.specs.ComputedTable.{table_of}
use Rattle.attestations.specs.CurrentTable.{Parts}
use Rattle.vap_table.specs.Change.{Alters}
use Rattle.rib_store.specs.Grounds.{grounds}
use Rattle.shared_cases.specs.Touched.{AreWithinTouched}
use Rattle.rib_store.specs.Stored.{Stored}
use Rattle.rib_store.specs.Touched.{IsWithinTouched}
use Rattle.rib_store.proofs.EventLemmas.{judged_sound, judged_state, rejudged_state, few_judged, same_outcome}
use Rattle.rib_store.proofs.StoredLemmas.{rejudged}
use Rattle.rib_store.proofs.store.RibStore.apply_table.Goals as goal

pub invariant_of-result : goal.invariant_of-result
invariant_of-result g c = judged_sound c.self.inside.routing.routes c.in_ok-cases.cases c.self.inside.routing.marks c.in_ok-cases.differing c.in_ok-routing.routing c.in_ok-routing.ensures
    (grounds c.in_ok-table.table c.self.inside.roles) c.self.inside.routing.cases c.self.invariant.marks
    (rejudged (grounds c.self.inside.table c.self.inside.roles) (grounds c.in_ok-table.table c.self.inside.roles) c.self.inside.routing.routes c.self.inside.routing.cases c.in_ok-cases.cases
    c.self.invariant.stored c.in_ok-cases.ensures.same (c.in_ok-cases.ensures.judged (table_of c.self.inside.table) c.in_ok-table.ensures.moves))
    c.in_ok-cases.ensures.newly

pub returns-clause-state : goal.returns-clause-state
returns-clause-state g c = (
  c.in_ok-table.table,
  subst (λ (s : Stored). Alters s.state.parts c.args.change c.in_ok-table.table) c.self.view_is c.in_ok-table.ensures.parts,
  judged_state c.self.inside.routing.routes c.in_ok-cases.cases c.self.inside.routing.marks c.in_ok-cases.differing c.in_ok-routing.routing c.in_ok-routing.ensures c.in_ok-table.table c.self.inside.roles
      ∙ rejudged_state c.self.inside.table c.in_ok-table.table c.self.inside.roles c.self.inside.roles c.self.inside.routing.marks.is_marked c.self.inside.routing.routes c.self.inside.routing.marks.notes c.self.inside.routing.cases c.in_ok-cases.cases c.in_ok-cases.ensures.same
      ∙ ap (λ (s : Stored). record s.state { parts = c.in_ok-table.table }) c.self.view_is,
)

pub returns-clause-ticks : goal.returns-clause-ticks
returns-clause-ticks g c =
    subst (λ (s : Stored). (parts : Parts) → Alters s.state.parts c.args.change parts → IsWithinTouched s.state (record s.state { parts = parts }) (c.follow_table.new.steps - c.args.steps.now)) c.self.view_is (λ parts alters.
    let same : c.in_ok-table.table ≡ parts = same_outcome c.self.inside.table c.in_ok-table.table parts c.args.change c.in_ok-table.ensures.parts alters in
    few_judged c.self.inside.table parts c.self.inside.roles c.self.inside.roles c.self.inside.routing.marks.is_marked c.self.inside.routing.routes c.self.inside.routing.marks.notes c.self.inside.routing.cases _ c.self.invariant.stored c.len-length.ensures.in_order
    (subst (λ (p : Parts). AreWithinTouched (grounds c.self.inside.table c.self.inside.roles) (grounds p c.self.inside.roles) c.self.inside.routing.cases (c.follow_table.new.steps - c.args.steps.now)) same
    (c.follow_table.ensures.ticks (table_of c.self.inside.table) c.in_ok-table.ensures.moves)))

pub returns-in_err-cases-clause-ticks : goal.returns-in_err-cases-clause-ticks
returns-in_err-cases-clause-ticks g c =
    subst (λ (s : Stored). (parts : Parts) → Alters s.state.parts c.args.change parts → IsWithinTouched s.state (record s.state { parts = parts }) (c.follow_table.new.steps - c.args.steps.now)) c.self.view_is (λ parts alters.
    let same : c.in_ok-table.table ≡ parts = same_outcome c.self.inside.table c.in_ok-table.table parts c.args.change c.in_ok-table.ensures.parts alters in
    few_judged c.self.inside.table parts c.self.inside.roles c.self.inside.roles c.self.inside.routing.marks.is_marked c.self.inside.routing.routes c.self.inside.routing.marks.notes c.self.inside.routing.cases _ c.self.invariant.stored c.len-length.ensures.in_order
    (subst (λ (p : Parts). AreWithinTouched (grounds c.self.inside.table c.self.inside.roles) (grounds p c.self.inside.roles) c.self.inside.routing.cases (c.follow_table.new.steps - c.args.steps.now)) same
    (c.follow_table.ensures.ticks (table_of c.self.inside.table) c.in_ok-table.ensures.moves)))

pub returns-in_err-routing-clause-ticks : goal.returns-in_err-routing-clause-ticks
returns-in_err-routing-clause-ticks g c =
    subst (λ (s : Stored). (parts : Parts) → Alters s.state.parts c.args.change parts → IsWithinTouched s.state (record s.state { parts = parts }) (c.follow_table.new.steps - c.args.steps.now)) c.self.view_is (λ parts alters.
    let same : c.in_ok-table.table ≡ parts = same_outcome c.self.inside.table c.in_ok-table.table parts c.args.change c.in_ok-table.ensures.parts alters in
    few_judged c.self.inside.table parts c.self.inside.roles c.self.inside.roles c.self.inside.routing.marks.is_marked c.self.inside.routing.routes c.self.inside.routing.marks.notes c.self.inside.routing.cases _ c.self.invariant.stored c.len-length.ensures.in_order
    (subst (λ (p : Parts). AreWithinTouched (grounds c.self.inside.table c.self.inside.roles) (grounds p c.self.inside.roles) c.self.inside.routing.cases (c.follow_table.new.steps - c.args.steps.now)) same
    (c.follow_table.ensures.ticks (table_of c.self.inside.table) c.in_ok-table.ensures.moves)))
