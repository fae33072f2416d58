use Rattle.std.proofs.Common.{List, ap, subst, sym, ◌∙◌}
use Rattle.origin_model.specs.PrefixFilter.{IsHit}
use Rattle.origin_model.specs.Vrp.{Payload}
use Rattle.origin_model.specs.VrpSet.{has}
use Rattle.origin_model.specs.declared.origin_state.OriginState.{OriginState}
use Rattle.origin_validation.specs.Records.{IsUnhitIn}
use Rattle.origin_validation.proofs.StateLemmas.{Folds, Among, folds_start, among_next, among_end}
use Rattle.origin_validation.proofs.covering.state_by_each.Goals as goal

pub loop-v-init : goal.loop-v-init
loop-v-init c =
    let is = c.into_iter-v-iterator.ensures.into_iter_gives in
    let turned = λ (v : Payload). ap (λ (vs : List Payload). has vs v) is in
    folds_start c.args.prefix.now c.args.origin (IsUnhitIn c.args.set.now c.args.filters.now c.args.front.now)
    (Among c.args.prefix.now c.args.origin (λ w. ¬ IsHit c.args.filters.now w) c.into_iter-v-iterator.result)
    (λ v covers a. let there = sym (turned v) ∙ a.0 in (c.of_prefix-v-items.ensures.only v there, (c.of_prefix-v-items.ensures.within v there, a.1)))
    (λ v covers a. (turned v ∙ c.of_prefix-v-items.ensures.all v a.0 a.1.0, a.1.1))

pub loop-v-preserved : goal.loop-v-preserved
loop-v-preserved c =
    let all = IsUnhitIn c.args.set.now c.args.filters.now c.args.front.now in
    subst (λ (s : OriginState). Folds all (Among c.args.prefix.now c.args.origin (λ w. ¬ IsHit c.args.filters.now w) c.next.new.self) c.args.prefix.now c.args.origin s) (sym c.or-state.ensures)
    (among_next c.args.prefix.now c.args.origin (λ w. ¬ IsHit c.args.filters.now w) all c.loop-v.v-iterator c.next.new.self c.in-Some.v.now c.loop-v.state c.state_by-more.result
    c.in-Some.ensures.steps c.loop-v.invariant c.state_by-more.ensures)

pub returns : goal.returns
returns c =
    among_end c.args.prefix.now c.args.origin (λ w. ¬ IsHit c.args.filters.now w) (IsUnhitIn c.args.set.now c.args.filters.now c.args.front.now)
    c.loop-v.v-iterator c.loop-v.state c.in-None.ensures.steps.0 c.loop-v.invariant
