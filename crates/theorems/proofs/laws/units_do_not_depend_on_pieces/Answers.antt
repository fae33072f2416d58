use Rattle.theorems.proofs.PieceLemmas as lemmas
use Rattle.theorems.proofs.laws.units_do_not_depend_on_pieces.Goals as goal

pub returns : goal.returns
returns c = lemmas.units_dont_depend_on_pieces
