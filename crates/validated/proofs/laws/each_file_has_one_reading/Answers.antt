use Rattle.validated.proofs.LawLemmas as lemmas
use Rattle.validated.proofs.laws.each_file_has_one_reading.Goals as goal

pub returns : goal.returns
returns c = lemmas.each_file
