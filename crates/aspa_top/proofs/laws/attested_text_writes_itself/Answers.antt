use Rattle.aspa_top.proofs.AttestedTextLemmas as lemmas
use Rattle.aspa_top.proofs.laws.attested_text_writes_itself.Goals as goal

pub returns : goal.returns
returns c = lemmas.attested_text_writes
