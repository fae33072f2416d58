use Rattle.std.proofs.Common.{arith, ◌∙◌}
use Rattle.std.proofs.lemmas.Bool.Decides.{nat_tests}
use Rattle.sorted_map.proofs.BlockLemmas.{first_is_empty}
use Rattle.route_map.proofs.identified_routes.IdentifiedRoutes.is_empty.Goals as goal

pub returns-else-len-eq0 : goal.returns-else-len-eq0
returns-else-len-eq0 g c = (
  λ told. absurd (grind (arith, nat_tests, told, c.if-len-eq0.false)),
  λ none. absurd (omega (arith, c.if-len-eq0.false, c.len.ensures.len, first_is_empty c.self.inside.v4 c.self.inside.v6 (c.self.view_is ∙ none))),
)
