use Rattle.rtr_client.proofs.LawLemmas.{telling_is_one_line}
use Rattle.rtr_client.proofs.laws.each_telling_is_one_line.Goals as goal

pub returns : goal.returns
returns c = telling_is_one_line
