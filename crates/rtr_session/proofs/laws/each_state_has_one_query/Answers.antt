use Rattle.rtr_session.proofs.CaseLemmas as lemmas
use Rattle.rtr_session.proofs.laws.each_state_has_one_query.Goals as goal

pub returns : goal.returns
returns c = lemmas.one_query
