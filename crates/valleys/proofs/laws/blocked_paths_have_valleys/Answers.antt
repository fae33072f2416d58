use Rattle.valleys.proofs.LawLemmas as lemmas
use Rattle.valleys.proofs.laws.blocked_paths_have_valleys.Goals as goal

pub returns : goal.returns
returns c = lemmas.blocked_has
