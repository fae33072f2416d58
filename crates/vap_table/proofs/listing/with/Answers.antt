use Rattle.std.proofs.Common.{◌≡◌, ℕ, true, List, ◌∷◌, sym, subst, ◌∙◌}
use Rattle.std.specs.Map.Iter.{deref}
use Rattle.std.proofs.lemmas.Map.Iter.{rest_more}
use Rattle.path_model.specs.Authority.{has}
use Rattle.vap_table.proofs.LastsLemmas.{Listing, listing_start, listing_next, listed, has_head, has_tail}
use Rattle.vap_table.proofs.listing.with.Goals as goal

pub loop-customer-init : goal.loop-customer-init
loop-customer-init c =
    let e : c.args.names.now ≡ c.into_iter-customer-iterator.result = sym (c.into_iter-customer-iterator.ensures.into_iter_gives ∙ c.iter-customer-items.ensures.whole) in (
      subst (λ (rest : List ℕ). Listing c.args.sources.now c.args.lasts c.args.names.now rest c.args.lasts) e (listing_start c.args.sources.now c.args.lasts c.args.names.now c.iter-customer-items.ensures.rising c.requires),
      subst (λ (rest : List ℕ). (q : ℕ) → has rest q ≡ true → has c.args.names.now q ≡ true) e (λ q there. there),
    )

pub loop-customer-preserved : goal.loop-customer-preserved
loop-customer-preserved c =
    let x : ℕ = c.in-Some.customer.now in
    let e : c.loop-customer.customer-iterator ≡ x ∷ c.next.new.self = rest_more deref c.loop-customer.customer-iterator c.next.new.self c.next.result c.in-Some.customer c.in-Some.is c.next.ensures.steps in
    let within = subst (λ (rest : List ℕ). (q : ℕ) → has rest q ≡ true → has c.args.names.now q ≡ true) e c.loop-customer.invariant.1 in (
      listing_next c.args.sources.now c.args.lasts c.args.names.now c.next.new.self x c.loop-customer.lasts c.add_lasts.new.lasts c.requires (within x (has_head x c.next.new.self))
          (subst (λ (rest : List ℕ). Listing c.args.sources.now c.args.lasts c.args.names.now rest c.loop-customer.lasts) e c.loop-customer.invariant.0) c.in_ok-add_lasts.ensures,
      λ q there. within q (has_tail x c.next.new.self q there),
    )

pub returns : goal.returns
returns c = listed c.args.sources.now c.args.lasts c.args.names.now c.loop-customer.lasts (subst (λ (rest : List ℕ). Listing c.args.sources.now c.args.lasts c.args.names.now rest c.loop-customer.lasts) c.in-None.ensures.steps.0 c.loop-customer.invariant.0)
