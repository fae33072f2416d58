use Rattle.bgp_attrs.proofs.DecideLemmas.{reading_decided}
use Rattle.bgp_attrs.proofs.laws.attributes_read_or_not.Goals as goal

pub returns : goal.returns
returns c = reading_decided
