use Rattle.std.proofs.Common.{◌≡◌, [], sym, ◌∙◌}
use Rattle.route_map.proofs.MergeLemmas.{plain_is_empty, both_are_empty, identified_is_empty}
use Rattle.route_map.proofs.peer_routes.PeerRoutes.is_empty.Goals as goal

pub returns-else-is_empty : goal.returns-else-is_empty
returns-else-is_empty g c = (
  λ yes. absurd cc,
  λ none. c.is_empty.ensures.1 (plain_is_empty c.self.inside.plain c.self.inside.identified (c.self.view_is ∙ none)),
)

pub returns-then-is_empty : goal.returns-then-is_empty
returns-then-is_empty g c =
    let none : c.self.inside.plain ≡ [] = c.is_empty.ensures.0 c.if-is_empty.true in (
      λ yes. sym c.self.view_is ∙ both_are_empty c.self.inside.plain c.self.inside.identified none (c.is_empty-then-is_empty.ensures.0 yes),
      λ empty. c.is_empty-then-is_empty.ensures.1 (identified_is_empty c.self.inside.plain c.self.inside.identified none (c.self.view_is ∙ empty)),
    )
