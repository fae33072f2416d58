use Rattle.rtr_session.proofs.AnswerLemmas as lemmas
use Rattle.rtr_session.proofs.laws.patch_is_what_was_named.Goals as goal

pub returns : goal.returns
returns c = lemmas.patch_named
