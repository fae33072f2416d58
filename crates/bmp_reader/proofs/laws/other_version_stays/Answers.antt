use Rattle.bmp_reader.proofs.LawLemmas as lemmas
use Rattle.bmp_reader.proofs.laws.other_version_stays.Goals as goal

pub returns : goal.returns
returns c = lemmas.other_version_stays
