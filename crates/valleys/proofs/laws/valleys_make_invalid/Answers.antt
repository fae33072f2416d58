use Rattle.valleys.proofs.LawLemmas as lemmas
use Rattle.valleys.proofs.laws.valleys_make_invalid.Goals as goal

pub returns : goal.returns
returns c = lemmas.makes_invalid
