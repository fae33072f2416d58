use Rattle.aspa_payload.proofs.OneLemmas as lemmas
use Rattle.aspa_payload.proofs.laws.one_payload_at_the_front.Goals as goal

pub returns : goal.returns
returns c = lemmas.one_payload
