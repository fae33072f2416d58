use Rattle.der_reader.proofs.LawLemmas as lemmas
use Rattle.der_reader.proofs.laws.no_spelling_is_a_front_of_another.Goals as goal

pub returns : goal.returns
returns c = lemmas.no_front
