use Rattle.aspa_payload.proofs.SpellingLemmas as lemmas
use Rattle.aspa_payload.proofs.laws.each_attestation_has_one_payload.Goals as goal

pub returns : goal.returns
returns c = lemmas.each_attestation
