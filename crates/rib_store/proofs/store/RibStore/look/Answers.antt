use Rattle.std.proofs.Common.{◌≡◌, Some, ap, sym, subst, ◌∙◌}
use Rattle.std.specs.declared.option.Option.{Option}
use Rattle.std.specs.BTreeMap.{is_at}
use Rattle.std.specs.FinMap as fin
use Rattle.std.specs.Map.{lookup}
use Rattle.std.specs.Option.{option_copied, option_map}
use Rattle.path_model.specs.declared.role.Role.{Role}
use Rattle.path_model.specs.Key.{key_cmp}
use Rattle.shared_cases.specs.declared.case.Case.{Case}
use Rattle.shared_cases.specs.Cases.{at}
use Rattle.shared_cases.specs.Cases.{IsShown as IsCase}
use Rattle.rib_store.specs.Cased.{marked_by, path_or}
use Rattle.rib_store.specs.Shown.{standing, standing_in, IsRouteStanding}
use Rattle.rib_store.specs.Stored.{Stored}
use Rattle.rib_store.proofs.CasedLemmas.{get_through}
use Rattle.rib_store.proofs.ShownLemmas.{has_case, if_none, stored_shown}
use Rattle.rib_store.proofs.store.RibStore.look.Goals as goal

pub returns-in_err-number-clause-none : goal.returns-in_err-number-clause-none
returns-in_err-number-clause-none c = if_none c.from_residual.result _
    (ap (λ (s : Stored). fin.get s.state.routes c.args.key.now) (sym c.self.view_is) ∙ get_through path_or c.self.inside.routing.cases c.self.inside.routing.routes c.args.key.now
    ∙ ap (option_map (λ n. path_or (at c.self.inside.routing.cases n))) (sym c.get.ensures ∙ ap option_copied c.in_err-number.was))

pub returns-in_err-case-clause-none : goal.returns-in_err-case-clause-none
returns-in_err-case-clause-none c =
    let here : lookup (is_at (key_cmp c.args.key.now)) c.self.inside.routing.routes ≡ Some c.in_ok-number.number.now = sym c.get.ensures ∙ ap option_copied c.in_ok-number.was in
    absurd (has_case c.self.inside.table c.self.inside.roles c.self.inside.routing.routes c.self.inside.routing.cases (marked_by c.self.inside.routing.marks.is_marked c.self.inside.routing.cases c.self.inside.routing.routes c.self.inside.routing.marks.notes)
    c.self.invariant.stored c.args.key.now c.in_ok-number.number.now here c.get-2.result c.in_err-case.was c.get-2.ensures)

pub returns-clause-some : goal.returns-clause-some
returns-clause-some c =
    let here : lookup (is_at (key_cmp c.args.key.now)) c.self.inside.routing.routes ≡ Some c.in_ok-number.number.now = sym c.get.ensures ∙ ap option_copied c.in_ok-number.was in
    let case = c.in_ok-case.case in
    subst (λ (s : Stored). IsRouteStanding s.state c.args.key.now (standing c.of.result)) c.self.view_is
    (stored_shown c.self.inside.table c.self.inside.roles c.self.inside.routing.routes c.self.inside.routing.cases (marked_by c.self.inside.routing.marks.is_marked c.self.inside.routing.cases c.self.inside.routing.routes c.self.inside.routing.marks.notes)
    c.self.invariant.stored c.args.key.now c.in_ok-number.number.now here (standing c.of.result) case
    (subst (λ (o : Option Case). IsCase o (at c.self.inside.routing.cases c.in_ok-number.number.now)) c.in_ok-case.was c.get-2.ensures)
    (c.of.ensures ∙ ap (λ (role : Role). standing_in role case.trail.now case.judged.now) c.of-role.ensures))
