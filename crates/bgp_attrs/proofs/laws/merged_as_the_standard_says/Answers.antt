use Rattle.bgp_attrs.proofs.MergedLawLemmas.{merged_as_said}
use Rattle.bgp_attrs.proofs.laws.merged_as_the_standard_says.Goals as goal

pub returns : goal.returns
returns c = merged_as_said
