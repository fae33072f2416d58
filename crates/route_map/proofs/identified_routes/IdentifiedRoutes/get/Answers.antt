use Rattle.std.proofs.Common.{sym, ◌∙◌}
use Rattle.route_map.specs.Merged.{identified}
use Rattle.route_map.proofs.FamilyLemmas.{four_is, four_none, lookup_four, lookup_six}
use Rattle.route_map.proofs.identified_routes.IdentifiedRoutes.get.Goals as goal

pub returns-in-Some : goal.returns-in-Some
returns-in-Some g c =
    let four = four_is (λ s. identified s c.args.path) c.args.prefix.now c.in-Some.subnet (sym c.of.ensures ∙ c.in-Some.is) in
    rw (← c.self.view_is) (c.get.ensures ∙ lookup_four c.self.inside.v4 c.self.inside.v6 c.self.invariant (identified c.args.prefix.now c.args.path) c.in-Some.subnet four.0 four.1)

pub returns-in-None : goal.returns-in-None
returns-in-None g c =
    rw (← c.self.view_is)
    (c.get-in-None.ensures
    ∙ lookup_six c.self.inside.v4 c.self.inside.v6 c.self.invariant (identified c.args.prefix.now c.args.path) c.nlri_of.result c.nlri_of.ensures (four_none (λ s. identified s c.args.path) c.args.prefix.now (sym c.of.ensures ∙ c.in-None.is)))
