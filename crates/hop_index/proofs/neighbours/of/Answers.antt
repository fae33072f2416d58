use Rattle.hop_index.proofs.CaseLemmas.{none_rise}
use Rattle.hop_index.proofs.neighbours.of.Goals as goal

pub returns-in-None-clause-rising : goal.returns-in-None-clause-rising
returns-in-None-clause-rising c = none_rise
