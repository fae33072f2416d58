use Rattle.origin_model.proofs.LawLemmas as lemmas
use Rattle.origin_model.proofs.laws.routes_without_origin_are_never_valid.Goals as goal

pub returns : goal.returns
returns c = lemmas.without_origin
