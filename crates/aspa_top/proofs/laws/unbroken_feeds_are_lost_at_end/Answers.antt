use Rattle.aspa_top.proofs.LostLemmas.{lost_at_end}
use Rattle.aspa_top.proofs.laws.unbroken_feeds_are_lost_at_end.Goals as goal

pub returns : goal.returns
returns c = lost_at_end
