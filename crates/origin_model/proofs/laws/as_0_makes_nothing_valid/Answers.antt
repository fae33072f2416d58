use Rattle.origin_model.proofs.LawLemmas as lemmas
use Rattle.origin_model.proofs.laws.as_0_makes_nothing_valid.Goals as goal

pub returns : goal.returns
returns c = lemmas.as_0
