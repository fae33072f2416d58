use Rattle.rtr_session.proofs.AnswerLemmas as lemmas
use Rattle.rtr_session.proofs.laws.whole_answer_is_what_was_announced.Goals as goal

pub returns : goal.returns
returns c = lemmas.whole_announced
