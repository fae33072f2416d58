use Rattle.std.proofs.Common.{◌≡◌, ℕ, List, ◌∷◌, subst}
use Rattle.std.specs.Map.Iter.{deref}
use Rattle.std.proofs.lemmas.Map.Iter.{rest_more}
use Rattle.vap_table.proofs.TalliesLemmas.{Following, following_next}
use Rattle.vap_table.proofs.tallies.Tallies.follow.Goals as goal

pub loop-customer-preserved : goal.loop-customer-preserved
loop-customer-preserved c =
    let x : ℕ = c.in-Some.customer.now in
    let e : c.loop-customer.customer-iterator ≡ x ∷ c.next.new.self = rest_more deref c.loop-customer.customer-iterator c.next.new.self c.next.result c.in-Some.customer c.in-Some.is c.next.ensures.steps in
    following_next c.args.parts.now c.args.change.now c.args.names.now c.next.new.self x c.args.self c.loop-customer.tallies c.take-tally.new.self c.keep.new.self c.in_ok-retallied.field-0
    (subst (λ (rest : List ℕ). Following c.args.parts.now c.args.change.now c.args.names.now rest c.args.self c.loop-customer.tallies) e c.loop-customer.invariant)
    c.take-tally.ensures.left c.in_ok-keep.ensures c.in_ok-retallied.ensures
