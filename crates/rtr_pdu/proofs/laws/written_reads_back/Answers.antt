use Rattle.rtr_pdu.proofs.SpelledLemmas as lemmas
use Rattle.rtr_pdu.proofs.laws.written_reads_back.Goals as goal

pub returns : goal.returns
returns c = lemmas.reads_back
