use Rattle.theorems.proofs.RefusedLemmas as lemmas
use Rattle.theorems.proofs.laws.refused_input_changes_nothing.Goals as goal

pub returns : goal.returns
returns c = lemmas.refused_input_changes_nothing
