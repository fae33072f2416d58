use Rattle.bgp_attrs.proofs.JoinedLemmas.{joined_same}
use Rattle.bgp_attrs.proofs.NlriLemmas.{nlri_reader}
use Rattle.bgp_attrs.proofs.laws.prefixes_have_one_reading.Goals as goal

pub returns : goal.returns
returns c = λ add_path six bytes ones others. joined_same (nlri_reader add_path six) bytes ones others
