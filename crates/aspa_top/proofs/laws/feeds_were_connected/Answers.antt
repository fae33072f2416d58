use Rattle.aspa_top.proofs.ConnectedLemmas.{feeds_were_connected}
use Rattle.aspa_top.proofs.laws.feeds_were_connected.Goals as goal

pub returns : goal.returns
returns c = feeds_were_connected
