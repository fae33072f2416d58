use Rattle.stated_workload.proofs.TextLemmas.{has_one_text}
use Rattle.stated_workload.proofs.laws.each_seed_has_one_text.Goals as goal

pub returns : goal.returns
returns c = has_one_text
