use Rattle.std.proofs.Common.{List, ap, refl, sym, ◌∙◌, true≢false}
use Rattle.origin_model.specs.Vrp.{Payload}
use Rattle.origin_model.specs.VrpSet.{has}
use Rattle.origin_validation.proofs.LengthLemmas.{unseen_first, unseen_next, unseen_none}
use Rattle.origin_validation.proofs.covering.has_unhit.Goals as goal

pub loop-v-init : goal.loop-v-init
loop-v-init c =
    let turned = λ (v : Payload). ap (λ (vs : List Payload). has vs v) c.into_iter-v-iterator.ensures.into_iter_gives in
    record {
      all = λ v a. turned v ∙ c.of_prefix-v-items.ensures.all v a.0 a.1.0;
      only = λ v h. let there = sym (turned v) ∙ h in (c.of_prefix-v-items.ensures.only v there, c.of_prefix-v-items.ensures.within v there);
    }

pub loop-v-preserved : goal.loop-v-preserved
loop-v-preserved c =
    unseen_next c.args.set.now c.args.filters.now c.args.front.now c.loop-v.v-iterator c.next.new.self c.in-Some.v.now c.in-Some.ensures.steps (c.hit.ensures.0 c.if-not-hit.false) c.loop-v.invariant

pub returns-then-not-hit : goal.returns-then-not-hit
returns-then-not-hit c =
    let found = unseen_first c.args.set.now c.args.filters.now c.args.front.now c.loop-v.v-iterator c.next.new.self c.in-Some.v.now c.in-Some.ensures.steps
    (λ hit. true≢false (sym (c.hit.ensures.1 hit) ∙ c.if-not-hit.true)) c.loop-v.invariant in
    (λ t. found, λ h. refl)

pub returns : goal.returns
returns c = (λ t. absurd (true≢false (sym t)), λ h. absurd (unseen_none c.args.set.now c.args.filters.now c.args.front.now c.loop-v.v-iterator c.in-None.ensures.steps.0 c.loop-v.invariant h))
