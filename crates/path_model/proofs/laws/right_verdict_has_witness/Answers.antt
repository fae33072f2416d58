use Rattle.path_model.proofs.LawLemmas as lemmas
use Rattle.path_model.proofs.laws.right_verdict_has_witness.Goals as goal

pub returns : goal.returns
returns c = lemmas.right_has_witness
