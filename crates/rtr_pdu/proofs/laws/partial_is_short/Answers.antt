use Rattle.rtr_pdu.proofs.NextLemmas as lemmas
use Rattle.rtr_pdu.proofs.laws.partial_is_short.Goals as goal

pub returns : goal.returns
returns c = lemmas.partial_short
