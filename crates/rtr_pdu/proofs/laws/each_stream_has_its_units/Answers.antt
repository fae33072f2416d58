use Rattle.rtr_pdu.proofs.UnitLemmas as lemmas
use Rattle.rtr_pdu.proofs.laws.each_stream_has_its_units.Goals as goal

pub returns : goal.returns
returns c = lemmas.its_units
