use Rattle.path_model.proofs.LawLemmas as lemmas
use Rattle.path_model.proofs.laws.hops_decide_witnesses.Goals as goal

pub returns : goal.returns
returns c = lemmas.hops_decide_witnesses
