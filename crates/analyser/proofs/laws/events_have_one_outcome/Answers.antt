use Rattle.analyser.proofs.EventLemmas.{one_outcome_of}
use Rattle.analyser.proofs.laws.events_have_one_outcome.Goals as goal

pub returns : goal.returns
returns c = one_outcome_of
