use Rattle.der_reader.proofs.LawLemmas as lemmas
use Rattle.der_reader.proofs.laws.each_number_has_one_content.Goals as goal

pub returns : goal.returns
returns c = lemmas.each_number
