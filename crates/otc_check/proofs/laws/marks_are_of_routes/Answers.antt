use Rattle.otc_check.proofs.RouteLemmas.{are_of_routes}
use Rattle.otc_check.proofs.laws.marks_are_of_routes.Goals as goal

pub returns : goal.returns
returns c = are_of_routes
