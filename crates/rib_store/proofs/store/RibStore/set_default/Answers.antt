use Rattle.std.proofs.Common.{ℕ, ◌-◌, ap, subst, ◌∙◌}
use Rattle.path_model.specs.Roles.{Relations}
use Rattle.shared_cases.specs.Cases.{at}
use Rattle.shared_cases.specs.Grounds.{IsJudged}
use Rattle.rib_store.specs.Grounds.{grounds}
use Rattle.shared_cases.specs.Touched.{AreWithinTouched}
use Rattle.rib_store.specs.State.{State}
use Rattle.rib_store.specs.Stored.{Stored}
use Rattle.rib_store.specs.Touched.{IsWithinTouched}
use Rattle.rib_store.proofs.EventLemmas.{judged_sound, judged_state, rejudged_state, few_judged}
use Rattle.rib_store.proofs.RouteLemmas.{state_by}
use Rattle.rib_store.proofs.StoredLemmas.{rejudged}
use Rattle.rib_store.proofs.TouchedLemmas.{default_back}
use Rattle.rib_store.proofs.store.RibStore.set_default.Goals as goal

pub invariant_of-result : goal.invariant_of-result
invariant_of-result g c = judged_sound c.self.inside.routing.routes c.in_ok-cases.cases c.self.inside.routing.marks c.in_ok-cases.differing c.in_ok-routing.routing c.in_ok-routing.ensures
    (grounds c.self.inside.table c.set_default.new.self) c.self.inside.routing.cases c.self.invariant.marks
    (rejudged (grounds c.self.inside.table c.self.inside.roles) (grounds c.self.inside.table c.set_default.new.self) c.self.inside.routing.routes c.self.inside.routing.cases c.in_ok-cases.cases
    c.self.invariant.stored c.in_ok-cases.ensures.same
    (subst (λ (r : Relations). (n : ℕ) → IsJudged (grounds c.self.inside.table r) (at c.self.inside.routing.cases n) → IsJudged (grounds c.self.inside.table c.set_default.new.self) (at c.in_ok-cases.cases n))
    (default_back c.args.role c.default-before.result c.self.inside.roles c.set_default.new.self c.default-before.ensures c.set_default.ensures) c.in_ok-cases.ensures.judged))
    c.in_ok-cases.ensures.newly

pub returns-clause-state : goal.returns-clause-state
returns-clause-state g c =
    judged_state c.self.inside.routing.routes c.in_ok-cases.cases c.self.inside.routing.marks c.in_ok-cases.differing c.in_ok-routing.routing c.in_ok-routing.ensures c.self.inside.table c.set_default.new.self
    ∙ rejudged_state c.self.inside.table c.self.inside.table c.self.inside.roles c.set_default.new.self c.self.inside.routing.marks.is_marked c.self.inside.routing.routes c.self.inside.routing.marks.notes c.self.inside.routing.cases c.in_ok-cases.cases c.in_ok-cases.ensures.same
    ∙ ap (λ (r : Relations). record (state_by c.self.inside.table c.self.inside.roles c.self.inside.routing.marks.is_marked c.self.inside.routing.cases c.self.inside.routing.routes c.self.inside.routing.marks.notes) { roles = r }) c.set_default.ensures
    ∙ ap (λ (s : Stored). record s.state { roles = record s.state.roles { default = c.args.role } }) c.self.view_is

pub returns-clause-ticks : goal.returns-clause-ticks
returns-clause-ticks g c =
    subst (λ (s : Stored). IsWithinTouched s.state (record s.state { roles = record s.state.roles { default = c.args.role } }) (c.follow_default.new.steps - c.args.steps.now)) c.self.view_is
    (let state : State = state_by c.self.inside.table c.self.inside.roles c.self.inside.routing.marks.is_marked c.self.inside.routing.cases c.self.inside.routing.routes c.self.inside.routing.marks.notes in
    subst (λ (r : Relations). IsWithinTouched state (record state { roles = r }) (c.follow_default.new.steps - c.args.steps.now)) c.set_default.ensures
    (few_judged c.self.inside.table c.self.inside.table c.self.inside.roles c.set_default.new.self c.self.inside.routing.marks.is_marked c.self.inside.routing.routes c.self.inside.routing.marks.notes c.self.inside.routing.cases _ c.self.invariant.stored c.len-length.ensures.in_order
    (subst (λ (r : Relations). AreWithinTouched (grounds c.self.inside.table r) (grounds c.self.inside.table c.set_default.new.self) c.self.inside.routing.cases (c.follow_default.new.steps - c.args.steps.now))
    (default_back c.args.role c.default-before.result c.self.inside.roles c.set_default.new.self c.default-before.ensures c.set_default.ensures) c.follow_default.ensures.ticks)))

pub returns-in_err-cases-clause-ticks : goal.returns-in_err-cases-clause-ticks
returns-in_err-cases-clause-ticks g c =
    subst (λ (s : Stored). IsWithinTouched s.state (record s.state { roles = record s.state.roles { default = c.args.role } }) (c.follow_default.new.steps - c.args.steps.now)) c.self.view_is
    (let state : State = state_by c.self.inside.table c.self.inside.roles c.self.inside.routing.marks.is_marked c.self.inside.routing.cases c.self.inside.routing.routes c.self.inside.routing.marks.notes in
    subst (λ (r : Relations). IsWithinTouched state (record state { roles = r }) (c.follow_default.new.steps - c.args.steps.now)) c.set_default.ensures
    (few_judged c.self.inside.table c.self.inside.table c.self.inside.roles c.set_default.new.self c.self.inside.routing.marks.is_marked c.self.inside.routing.routes c.self.inside.routing.marks.notes c.self.inside.routing.cases _ c.self.invariant.stored c.len-length.ensures.in_order
    (subst (λ (r : Relations). AreWithinTouched (grounds c.self.inside.table r) (grounds c.self.inside.table c.set_default.new.self) c.self.inside.routing.cases (c.follow_default.new.steps - c.args.steps.now))
    (default_back c.args.role c.default-before.result c.self.inside.roles c.set_default.new.self c.default-before.ensures c.set_default.ensures) c.follow_default.ensures.ticks)))

pub returns-in_err-routing-clause-ticks : goal.returns-in_err-routing-clause-ticks
returns-in_err-routing-clause-ticks g c =
    subst (λ (s : Stored). IsWithinTouched s.state (record s.state { roles = record s.state.roles { default = c.args.role } }) (c.follow_default.new.steps - c.args.steps.now)) c.self.view_is
    (let state : State = state_by c.self.inside.table c.self.inside.roles c.self.inside.routing.marks.is_marked c.self.inside.routing.cases c.self.inside.routing.routes c.self.inside.routing.marks.notes in
    subst (λ (r : Relations). IsWithinTouched state (record state { roles = r }) (c.follow_default.new.steps - c.args.steps.now)) c.set_default.ensures
    (few_judged c.self.inside.table c.self.inside.table c.self.inside.roles c.set_default.new.self c.self.inside.routing.marks.is_marked c.self.inside.routing.routes c.self.inside.routing.marks.notes c.self.inside.routing.cases _ c.self.invariant.stored c.len-length.ensures.in_order
    (subst (λ (r : Relations). AreWithinTouched (grounds c.self.inside.table r) (grounds c.self.inside.table c.set_default.new.self) c.self.inside.routing.cases (c.follow_default.new.steps - c.args.steps.now))
    (default_back c.args.role c.default-before.result c.self.inside.roles c.set_default.new.self c.default-before.ensures c.set_default.ensures) c.follow_default.ensures.ticks)))
