use Rattle.der_reader.proofs.LawLemmas as lemmas
use Rattle.der_reader.proofs.laws.each_content_has_one_spelling.Goals as goal

pub returns : goal.returns
returns c = lemmas.each_content
