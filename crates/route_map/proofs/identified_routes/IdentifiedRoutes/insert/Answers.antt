use Rattle.std.proofs.Common.{sym, ◌∙◌}
use Rattle.route_map.specs.Merged.{identified}
use Rattle.route_map.proofs.FamilyLemmas.{four_is, four_none, lookup_four, lookup_six, insert_four, insert_six, families_with_four, families_with_six}
use Rattle.route_map.proofs.identified_routes.IdentifiedRoutes.insert.Goals as goal

pub invariant_of-self-in-Some : goal.invariant_of-self-in-Some
invariant_of-self-in-Some g c =
    let four = four_is (λ s. identified s c.args.path) c.args.prefix.now c.in-Some.subnet (sym c.of.ensures ∙ c.in-Some.is) in
    rw c.in_ok-insert-in-Some.ensures.inserted (families_with_four c.self.inside.v4 c.self.inside.v6 c.self.invariant (identified c.args.prefix.now c.args.path) c.in-Some.subnet four.0 four.1 c.args.value)

pub invariant_of-self-in-None : goal.invariant_of-self-in-None
invariant_of-self-in-None g c =
    rw c.in_ok-insert-in-None.ensures.inserted
    (families_with_six c.self.inside.v4 c.self.inside.v6 c.self.invariant (identified c.args.prefix.now c.args.path) c.nlri_of.result c.nlri_of.ensures (four_none (λ s. identified s c.args.path) c.args.prefix.now (sym c.of.ensures ∙ c.in-None.is)) c.args.value)

pub returns-in_ok-insert-in-Some-clause-before : goal.returns-in_ok-insert-in-Some-clause-before
returns-in_ok-insert-in-Some-clause-before g c =
    let four = four_is (λ s. identified s c.args.path) c.args.prefix.now c.in-Some.subnet (sym c.of.ensures ∙ c.in-Some.is) in
    rw (← c.self.view_is) (c.in_ok-insert-in-Some.ensures.before ∙ lookup_four c.self.inside.v4 c.self.inside.v6 c.self.invariant (identified c.args.prefix.now c.args.path) c.in-Some.subnet four.0 four.1)

pub returns-in_ok-insert-in-Some-clause-put : goal.returns-in_ok-insert-in-Some-clause-put
returns-in_ok-insert-in-Some-clause-put g c =
    let four = four_is (λ s. identified s c.args.path) c.args.prefix.now c.in-Some.subnet (sym c.of.ensures ∙ c.in-Some.is) in
    rw (c.in_ok-insert-in-Some.ensures.inserted, ← c.self.view_is)
    (insert_four c.self.inside.v4 c.self.inside.v6 c.self.invariant (identified c.args.prefix.now c.args.path) c.in-Some.subnet four.0 four.1 c.args.value)

pub returns-in_ok-insert-in-None-clause-before : goal.returns-in_ok-insert-in-None-clause-before
returns-in_ok-insert-in-None-clause-before g c =
    rw (← c.self.view_is)
    (c.in_ok-insert-in-None.ensures.before
    ∙ lookup_six c.self.inside.v4 c.self.inside.v6 c.self.invariant (identified c.args.prefix.now c.args.path) c.nlri_of.result c.nlri_of.ensures (four_none (λ s. identified s c.args.path) c.args.prefix.now (sym c.of.ensures ∙ c.in-None.is)))

pub returns-in_ok-insert-in-None-clause-put : goal.returns-in_ok-insert-in-None-clause-put
returns-in_ok-insert-in-None-clause-put g c =
    rw (c.in_ok-insert-in-None.ensures.inserted, ← c.self.view_is)
    (insert_six c.self.inside.v4 c.self.inside.v6 c.self.invariant (identified c.args.prefix.now c.args.path) c.nlri_of.result c.nlri_of.ensures (four_none (λ s. identified s c.args.path) c.args.prefix.now (sym c.of.ensures ∙ c.in-None.is)) c.args.value)
