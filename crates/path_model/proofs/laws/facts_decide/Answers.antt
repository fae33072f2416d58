use Rattle.path_model.proofs.WitnessLemmas as lemmas
use Rattle.path_model.proofs.laws.facts_decide.Goals as goal

pub returns : goal.returns
returns c = lemmas.facts_right
