use Rattle.origin_model.proofs.LawLemmas as lemmas
use Rattle.origin_model.proofs.laws.covering_is_an_order.Goals as goal

pub returns : goal.returns
returns c = lemmas.covering_order
