use Rattle.aspa_top.proofs.LawLemmas as lemmas
use Rattle.aspa_top.proofs.laws.runs_write_fronts.Goals as goal

pub returns : goal.returns
returns c = lemmas.runs_write_fronts
