use Rattle.std.proofs.Common.{sym, ◌∙◌}
use Rattle.route_map.specs.Merged.{identified}
use Rattle.route_map.proofs.FamilyLemmas.{four_is, four_none, lookup_four, lookup_six, remove_four, remove_six, families_without}
use Rattle.route_map.proofs.identified_routes.IdentifiedRoutes.remove.Goals as goal

pub invariant_of-self : goal.invariant_of-self
invariant_of-self g c = rw c.remove.ensures.removed (families_without c.self.inside.v4 c.self.inside.v6 c.self.invariant c.in-Some.subnet).0

pub invariant_of-self-in-None : goal.invariant_of-self-in-None
invariant_of-self-in-None g c = rw c.remove-in-None.ensures.removed (families_without c.self.inside.v4 c.self.inside.v6 c.self.invariant c.nlri_of.result).1

pub returns-in-Some-clause-before : goal.returns-in-Some-clause-before
returns-in-Some-clause-before g c =
    let four = four_is (λ s. identified s c.args.path) c.args.prefix.now c.in-Some.subnet (sym c.of.ensures ∙ c.in-Some.is) in
    rw (← c.self.view_is) (c.remove.ensures.before ∙ lookup_four c.self.inside.v4 c.self.inside.v6 c.self.invariant (identified c.args.prefix.now c.args.path) c.in-Some.subnet four.0 four.1)

pub returns-in-Some-clause-removed : goal.returns-in-Some-clause-removed
returns-in-Some-clause-removed g c =
    let four = four_is (λ s. identified s c.args.path) c.args.prefix.now c.in-Some.subnet (sym c.of.ensures ∙ c.in-Some.is) in
    rw (c.remove.ensures.removed, ← c.self.view_is) (remove_four c.self.inside.v4 c.self.inside.v6 c.self.invariant (identified c.args.prefix.now c.args.path) c.in-Some.subnet four.0 four.1)

pub returns-in-None-clause-before : goal.returns-in-None-clause-before
returns-in-None-clause-before g c =
    rw (← c.self.view_is)
    (c.remove-in-None.ensures.before
    ∙ lookup_six c.self.inside.v4 c.self.inside.v6 c.self.invariant (identified c.args.prefix.now c.args.path) c.nlri_of.result c.nlri_of.ensures (four_none (λ s. identified s c.args.path) c.args.prefix.now (sym c.of.ensures ∙ c.in-None.is)))

pub returns-in-None-clause-removed : goal.returns-in-None-clause-removed
returns-in-None-clause-removed g c =
    rw (c.remove-in-None.ensures.removed, ← c.self.view_is)
    (remove_six c.self.inside.v4 c.self.inside.v6 c.self.invariant (identified c.args.prefix.now c.args.path) c.nlri_of.result c.nlri_of.ensures (four_none (λ s. identified s c.args.path) c.args.prefix.now (sym c.of.ensures ∙ c.in-None.is)))
