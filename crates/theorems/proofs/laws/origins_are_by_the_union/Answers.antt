use Rattle.theorems.proofs.OriginLemmas as lemmas
use Rattle.theorems.proofs.laws.origins_are_by_the_union.Goals as goal

pub returns : goal.returns
returns c = lemmas.origins_are_by_the_union
