use Rattle.analyser.proofs.ClearedLemmas.{listed_as_gone}
use Rattle.analyser.proofs.laws.cleared_routes_are_listed_as_gone.Goals as goal

pub returns : goal.returns
returns c = listed_as_gone
