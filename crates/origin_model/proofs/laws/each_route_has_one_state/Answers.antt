use Rattle.origin_model.proofs.LawLemmas as lemmas
use Rattle.origin_model.proofs.laws.each_route_has_one_state.Goals as goal

pub returns : goal.returns
returns c = lemmas.one_for_each_route
