use Rattle.route_map.proofs.ValueLemmas.{both_pushed}
use Rattle.route_map.proofs.identified_routes.IdentifiedRoutes.push_values.Goals as goal

pub returns : goal.returns
returns g c =
    both_pushed c.args.into.now.items c.push_values.new.into.items c.push_values-2.new.into.items c.self.inside.v4 c.self.inside.v6 c.args.self.now c.self.view_is
    c.in_ok-push_values.ensures c.in_ok-push_values-2.ensures
