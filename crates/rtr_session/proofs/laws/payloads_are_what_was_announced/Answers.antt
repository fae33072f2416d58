use Rattle.rtr_session.proofs.PayloadLemmas as lemmas
use Rattle.rtr_session.proofs.laws.payloads_are_what_was_announced.Goals as goal

pub returns : goal.returns
returns c = lemmas.payloads_announced
