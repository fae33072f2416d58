use Rattle.mrt_reader.proofs.LawLemmas as lemmas
use Rattle.mrt_reader.proofs.laws.too_long_stays.Goals as goal

pub returns : goal.returns
returns c = lemmas.too_long_stays
