use Rattle.rtr_client.proofs.LostLemmas.{broke_or_ended}
use Rattle.rtr_client.proofs.laws.lost_feeds_broke_or_ended.Goals as goal

pub returns : goal.returns
returns c = broke_or_ended
