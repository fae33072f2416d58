use Rattle.path_model.proofs.LawLemmas as lemmas
use Rattle.path_model.proofs.laws.each_case_has_one_right_verdict.Goals as goal

pub returns : goal.returns
returns c = lemmas.one_right
