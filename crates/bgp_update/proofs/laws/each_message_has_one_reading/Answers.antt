use Rattle.bgp_update.proofs.MessageLemmas.{one_reading}
use Rattle.bgp_update.proofs.laws.each_message_has_one_reading.Goals as goal

pub returns : goal.returns
returns c = one_reading
