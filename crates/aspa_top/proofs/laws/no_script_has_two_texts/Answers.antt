use Rattle.aspa_top.proofs.LawLemmas as lemmas
use Rattle.aspa_top.proofs.laws.no_script_has_two_texts.Goals as goal

pub returns : goal.returns
returns c = lemmas.one_text
