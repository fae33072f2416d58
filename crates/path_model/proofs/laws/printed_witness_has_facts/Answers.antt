use Rattle.path_model.proofs.WitnessLemmas as lemmas
use Rattle.path_model.proofs.laws.printed_witness_has_facts.Goals as goal

pub returns : goal.returns
returns c = lemmas.printed_facts
