use Rattle.rtr_client.proofs.LawLemmas.{one_outcome}
use Rattle.rtr_client.proofs.laws.feed_lines_have_one_outcome.Goals as goal

pub returns : goal.returns
returns c = one_outcome
