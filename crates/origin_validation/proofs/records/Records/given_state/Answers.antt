use Rattle.std.proofs.Common.{ℕ, List, ap, subst, sym, ◌∙◌}
use Rattle.origin_model.specs.declared.prefix_filter.PrefixFilter.{PrefixFilter}
use Rattle.origin_model.specs.Vrp.{Payload}
use Rattle.origin_model.specs.declared.origin_state.OriginState.{OriginState}
use Rattle.origin_model.specs.Current.{Parts, IsGiven}
use Rattle.origin_model.specs.OriginState.{HasState}
use Rattle.origin_validation.specs.Records.{IsGivenUnhit, IsUnhit}
use Rattle.origin_validation.proofs.StateLemmas.{Folds, Given, folds_start, sources_next, sources_end}
use Rattle.origin_validation.proofs.records.Records.given_state.Goals as goal

pub loop-set-init : goal.loop-set-init
loop-set-init c =
    let is = c.into_iter-set-iterator.ensures.into_iter_gives.0 ∙ ap (λ (p : Parts). p.sources) c.self.view_is in
    folds_start c.args.prefix.now c.args.origin (IsGivenUnhit c.args.self.now.sources c.args.self.now.filters)
    (Given c.args.prefix.now c.args.origin c.args.self.now.filters c.into_iter-set-iterator.result)
    (λ v covers a. (subst (λ (ss : List (List ℕ × List Payload)). IsGiven ss v) is a.0, a.1))
    (λ v covers a. (subst (λ (ss : List (List ℕ × List Payload)). IsGiven ss v) (sym is) a.0, a.1))

pub loop-set-preserved : goal.loop-set-preserved
loop-set-preserved c =
    let all = IsGivenUnhit c.args.self.now.sources c.args.self.now.filters in
    subst (λ (s : OriginState). Folds all (Given c.args.prefix.now c.args.origin c.args.self.now.filters c.next.new.self) c.args.prefix.now c.args.origin s) (sym c.or-state.ensures)
    (sources_next c.args.prefix.now c.args.origin c.args.self.now.filters all
    c.loop-set.set-iterator c.next.new.self (c.in-Some.field-0-0.now, c.in-Some.set.now) c.loop-set.state c.state_in-more.result c.in-Some.ensures.steps c.loop-set.invariant
    (subst (λ (fs : List PrefixFilter). HasState (IsUnhit c.in-Some.set.now fs) c.args.prefix.now c.args.origin c.state_in-more.result) (ap (λ (p : Parts). p.filters) c.self.view_is) c.state_in-more.ensures))

pub returns : goal.returns
returns c =
    sources_end c.args.prefix.now c.args.origin c.args.self.now.filters (IsGivenUnhit c.args.self.now.sources c.args.self.now.filters)
    c.loop-set.set-iterator c.loop-set.state c.in-None.ensures.steps.0 c.loop-set.invariant
