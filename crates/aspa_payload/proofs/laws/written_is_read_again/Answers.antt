use Rattle.aspa_payload.proofs.OneLemmas as lemmas
use Rattle.aspa_payload.proofs.laws.written_is_read_again.Goals as goal

pub returns : goal.returns
returns c = lemmas.read_again
