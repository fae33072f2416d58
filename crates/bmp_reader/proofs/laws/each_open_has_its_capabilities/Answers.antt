use Rattle.bmp_reader.proofs.CapabilityLemmas.{one_list}
use Rattle.bmp_reader.proofs.laws.each_open_has_its_capabilities.Goals as goal

pub returns : goal.returns
returns c = one_list
