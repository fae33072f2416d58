use Rattle.std.proofs.Common.{◌++◌, ◌-◌, length, ap, sym, subst, ◌∙◌}
use Rattle.route_map.specs.Merged.{HasNlri}
use Rattle.route_map.proofs.LastLemmas.{found_first, found_from_place, found_second, none_from_place}
use Rattle.route_map.proofs.identified_routes.IdentifiedRoutes.last.Goals as goal

pub returns-in-Some-clause-some : goal.returns-in-Some-clause-some
returns-in-Some-clause-some g c =
    rw (← c.self.view_is)
    (found_second c.in-Some.nlri.now c.self.inside.v4 c.self.inside.v6
    (found_from_place c.self.inside.v6 (length c.self.inside.v6 - 1) (c.in-Some.nlri.now, c.in-Some.field-0-1.now) (sym c.in-Some.ensures)))

pub returns-in-None-clause-none : goal.returns-in-None-clause-none
returns-in-None-clause-none g c =
    rw (← c.self.view_is)
    (ap (λ xs. xs ++ c.self.inside.v6) (none_from_place c.self.inside.v4 c.in-None.ensures) ∙ none_from_place c.self.inside.v6 c.in_default.ensures)

pub returns-in-Some-last-clause-some : goal.returns-in-Some-last-clause-some
returns-in-Some-last-clause-some g c =
    rw (← c.self.view_is)
    (subst (HasNlri (c.self.inside.v4 ++ c.self.inside.v6)) (sym c.nlri.ensures)
    (found_first c.in-Some-last.subnet.now c.self.inside.v4 c.self.inside.v6
    (found_from_place c.self.inside.v4 (length c.self.inside.v4 - 1) (c.in-Some-last.subnet.now, c.in-Some-last.field-0-1.now) (sym c.in-Some-last.ensures))))
