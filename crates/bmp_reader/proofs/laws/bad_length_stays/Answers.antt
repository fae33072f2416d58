use Rattle.bmp_reader.proofs.LawLemmas as lemmas
use Rattle.bmp_reader.proofs.laws.bad_length_stays.Goals as goal

pub returns : goal.returns
returns c = lemmas.bad_length_stays
