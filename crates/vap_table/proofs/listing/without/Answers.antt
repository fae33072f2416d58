use Rattle.std.proofs.Common.{◌≡◌, ℕ, true, List, ◌∷◌, sym, subst, ◌∙◌}
use Rattle.std.specs.Map.Iter.{deref}
use Rattle.std.proofs.lemmas.Map.Iter.{rest_more}
use Rattle.path_model.specs.Authority.{has}
use Rattle.vap_table.proofs.LastsLemmas.{Forgetting, forgetting_start, forgetting_next, forgotten, has_head, has_tail}
use Rattle.vap_table.proofs.listing.without.Goals as goal

pub loop-customer-init : goal.loop-customer-init
loop-customer-init c =
    let e : c.args.names.now ≡ c.into_iter-customer-iterator.result = sym (c.into_iter-customer-iterator.ensures.into_iter_gives ∙ c.iter-customer-items.ensures.whole) in (
      subst (λ (rest : List ℕ). Forgetting c.args.lasts c.args.names.now rest c.args.lasts) e (forgetting_start c.args.lasts c.args.names.now c.iter-customer-items.ensures.rising),
      subst (λ (rest : List ℕ). (q : ℕ) → has rest q ≡ true → has c.args.names.now q ≡ true) e (λ q there. there),
    )

pub loop-customer-preserved : goal.loop-customer-preserved
loop-customer-preserved c =
    let x : ℕ = c.in-Some.customer.now in
    let e : c.loop-customer.customer-iterator ≡ x ∷ c.next.new.self = rest_more deref c.loop-customer.customer-iterator c.next.new.self c.next.result c.in-Some.customer c.in-Some.is c.next.ensures.steps in
    let within = subst (λ (rest : List ℕ). (q : ℕ) → has rest q ≡ true → has c.args.names.now q ≡ true) e c.loop-customer.invariant.1 in (
      forgetting_next c.args.lasts c.args.sources.now c.args.names.now c.next.new.self x c.loop-customer.lasts c.remove_lasts.new.lasts c.requires (within x (has_head x c.next.new.self))
          (subst (λ (rest : List ℕ). Forgetting c.args.lasts c.args.names.now rest c.loop-customer.lasts) e c.loop-customer.invariant.0) c.remove_lasts.ensures,
      λ q there. within q (has_tail x c.next.new.self q there),
    )

pub returns : goal.returns
returns c = forgotten c.args.lasts c.args.sources.now c.args.names.now c.loop-customer.lasts c.requires (subst (λ (rest : List ℕ). Forgetting c.args.lasts c.args.names.now rest c.loop-customer.lasts) c.in-None.ensures.steps.0 c.loop-customer.invariant.0)
