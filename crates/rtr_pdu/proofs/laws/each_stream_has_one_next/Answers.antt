use Rattle.rtr_pdu.proofs.NextLemmas as lemmas
use Rattle.rtr_pdu.proofs.laws.each_stream_has_one_next.Goals as goal

pub returns : goal.returns
returns c = lemmas.one_next
