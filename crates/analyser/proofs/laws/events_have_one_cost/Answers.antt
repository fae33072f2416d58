use Rattle.analyser.proofs.CostLemmas.{one_cost_of}
use Rattle.analyser.proofs.laws.events_have_one_cost.Goals as goal

pub returns : goal.returns
returns c = one_cost_of
