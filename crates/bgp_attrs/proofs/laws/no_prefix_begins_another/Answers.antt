use Rattle.bgp_attrs.proofs.LawLemmas as laws
use Rattle.bgp_attrs.proofs.laws.no_prefix_begins_another.Goals as goal

pub returns : goal.returns
returns c = laws.no_prefix_begins_another
