use Rattle.std.proofs.Common.{◌-◌, ap, sym, subst, ◌∙◌}
use Rattle.path_model.specs.Roles.{Relations, set_role}
use Rattle.rib_store.specs.Grounds.{grounds}
use Rattle.shared_cases.specs.Touched.{IsRoleMove}
use Rattle.rib_store.specs.State.{State}
use Rattle.rib_store.specs.Stored.{Stored}
use Rattle.rib_store.specs.Touched.{IsWithinTouched}
use Rattle.rib_store.proofs.EventLemmas.{judged_sound, judged_state, rejudged_state, few_judged}
use Rattle.rib_store.proofs.RouteLemmas.{state_by}
use Rattle.rib_store.proofs.StoredLemmas.{rejudged}
use Rattle.rib_store.proofs.TouchedLemmas.{role_set}
use Rattle.rib_store.proofs.store.RibStore.set_role.Goals as goal

pub invariant_of-result : goal.invariant_of-result
invariant_of-result g c = judged_sound c.self.inside.routing.routes c.in_ok-cases.cases c.self.inside.routing.marks c.in_ok-cases.differing c.in_ok-routing.routing c.in_ok-routing.ensures
    (grounds c.self.inside.table c.set.new.self) c.self.inside.routing.cases c.self.invariant.marks
    (rejudged (grounds c.self.inside.table c.self.inside.roles) (grounds c.self.inside.table c.set.new.self) c.self.inside.routing.routes c.self.inside.routing.cases c.in_ok-cases.cases
    c.self.invariant.stored c.in_ok-cases.ensures.same (c.in_ok-cases.ensures.judged c.self.inside.roles (subst (λ (r : Relations). IsRoleMove c.args.asn c.of-before.result c.self.inside.roles r) (sym c.in_ok-set.ensures.ok) (role_set c.args.asn c.args.role c.of-before.result c.self.inside.roles c.of-before.ensures))))
    c.in_ok-cases.ensures.newly

pub returns-clause-state : goal.returns-clause-state
returns-clause-state g c =
    judged_state c.self.inside.routing.routes c.in_ok-cases.cases c.self.inside.routing.marks c.in_ok-cases.differing c.in_ok-routing.routing c.in_ok-routing.ensures c.self.inside.table c.set.new.self
    ∙ rejudged_state c.self.inside.table c.self.inside.table c.self.inside.roles c.set.new.self c.self.inside.routing.marks.is_marked c.self.inside.routing.routes c.self.inside.routing.marks.notes c.self.inside.routing.cases c.in_ok-cases.cases c.in_ok-cases.ensures.same
    ∙ ap (λ (r : Relations). record (state_by c.self.inside.table c.self.inside.roles c.self.inside.routing.marks.is_marked c.self.inside.routing.cases c.self.inside.routing.routes c.self.inside.routing.marks.notes) { roles = r }) c.in_ok-set.ensures.ok
    ∙ ap (λ (s : Stored). record s.state { roles = set_role s.state.roles c.args.asn c.args.role }) c.self.view_is

pub returns-clause-ticks : goal.returns-clause-ticks
returns-clause-ticks g c =
    subst (λ (s : Stored). IsWithinTouched s.state (record s.state { roles = set_role s.state.roles c.args.asn c.args.role }) (c.follow_role.new.steps - c.args.steps.now)) c.self.view_is
    (let state : State = state_by c.self.inside.table c.self.inside.roles c.self.inside.routing.marks.is_marked c.self.inside.routing.cases c.self.inside.routing.routes c.self.inside.routing.marks.notes in
    subst (λ (r : Relations). IsWithinTouched state (record state { roles = r }) (c.follow_role.new.steps - c.args.steps.now)) c.in_ok-set.ensures.ok
    (few_judged c.self.inside.table c.self.inside.table c.self.inside.roles c.set.new.self c.self.inside.routing.marks.is_marked c.self.inside.routing.routes c.self.inside.routing.marks.notes c.self.inside.routing.cases _ c.self.invariant.stored c.len-length.ensures.in_order
    (c.follow_role.ensures.ticks c.self.inside.roles (subst (λ (r : Relations). IsRoleMove c.args.asn c.of-before.result c.self.inside.roles r) (sym c.in_ok-set.ensures.ok) (role_set c.args.asn c.args.role c.of-before.result c.self.inside.roles c.of-before.ensures)))))

pub returns-in_err-cases-clause-ticks : goal.returns-in_err-cases-clause-ticks
returns-in_err-cases-clause-ticks g c =
    subst (λ (s : Stored). IsWithinTouched s.state (record s.state { roles = set_role s.state.roles c.args.asn c.args.role }) (c.follow_role.new.steps - c.args.steps.now)) c.self.view_is
    (let state : State = state_by c.self.inside.table c.self.inside.roles c.self.inside.routing.marks.is_marked c.self.inside.routing.cases c.self.inside.routing.routes c.self.inside.routing.marks.notes in
    subst (λ (r : Relations). IsWithinTouched state (record state { roles = r }) (c.follow_role.new.steps - c.args.steps.now)) c.in_ok-set.ensures.ok
    (few_judged c.self.inside.table c.self.inside.table c.self.inside.roles c.set.new.self c.self.inside.routing.marks.is_marked c.self.inside.routing.routes c.self.inside.routing.marks.notes c.self.inside.routing.cases _ c.self.invariant.stored c.len-length.ensures.in_order
    (c.follow_role.ensures.ticks c.self.inside.roles (subst (λ (r : Relations). IsRoleMove c.args.asn c.of-before.result c.self.inside.roles r) (sym c.in_ok-set.ensures.ok) (role_set c.args.asn c.args.role c.of-before.result c.self.inside.roles c.of-before.ensures)))))

pub returns-in_err-routing-clause-ticks : goal.returns-in_err-routing-clause-ticks
returns-in_err-routing-clause-ticks g c =
    subst (λ (s : Stored). IsWithinTouched s.state (record s.state { roles = set_role s.state.roles c.args.asn c.args.role }) (c.follow_role.new.steps - c.args.steps.now)) c.self.view_is
    (let state : State = state_by c.self.inside.table c.self.inside.roles c.self.inside.routing.marks.is_marked c.self.inside.routing.cases c.self.inside.routing.routes c.self.inside.routing.marks.notes in
    subst (λ (r : Relations). IsWithinTouched state (record state { roles = r }) (c.follow_role.new.steps - c.args.steps.now)) c.in_ok-set.ensures.ok
    (few_judged c.self.inside.table c.self.inside.table c.self.inside.roles c.set.new.self c.self.inside.routing.marks.is_marked c.self.inside.routing.routes c.self.inside.routing.marks.notes c.self.inside.routing.cases _ c.self.invariant.stored c.len-length.ensures.in_order
    (c.follow_role.ensures.ticks c.self.inside.roles (subst (λ (r : Relations). IsRoleMove c.args.asn c.of-before.result c.self.inside.roles r) (sym c.in_ok-set.ensures.ok) (role_set c.args.asn c.args.role c.of-before.result c.self.inside.roles c.of-before.ensures)))))
