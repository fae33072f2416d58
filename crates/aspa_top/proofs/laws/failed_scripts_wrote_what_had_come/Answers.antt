use Rattle.aspa_top.proofs.LawLemmas as lemmas
use Rattle.aspa_top.proofs.laws.failed_scripts_wrote_what_had_come.Goals as goal

pub returns : goal.returns
returns c = lemmas.wrote_what_had_come
