use Rattle.bgp_attrs.proofs.LawLemmas.{reading_same}
use Rattle.bgp_attrs.proofs.laws.attributes_have_one_reading.Goals as goal

pub returns : goal.returns
returns c = reading_same
