use Rattle.path_model.proofs.LawLemmas as lemmas
use Rattle.path_model.proofs.laws.each_case_has_one_witness.Goals as goal

pub returns : goal.returns
returns c = lemmas.one_printed
