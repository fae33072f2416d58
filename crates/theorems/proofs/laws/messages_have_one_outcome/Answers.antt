use Rattle.theorems.proofs.MessageLemmas as lemmas
use Rattle.theorems.proofs.laws.messages_have_one_outcome.Goals as goal

pub returns : goal.returns
returns c = lemmas.messages_have_one_outcome
