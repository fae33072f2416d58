use Rattle.aspa_top.proofs.LawLemmas as lemmas
use Rattle.aspa_top.proofs.laws.each_script_without_attempts_has_a_text.Goals as goal

pub returns : goal.returns
returns c = lemmas.a_text
