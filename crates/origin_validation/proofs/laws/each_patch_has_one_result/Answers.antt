use Rattle.origin_validation.proofs.PatchLemmas.{patch_has_one_result}
use Rattle.origin_validation.proofs.laws.each_patch_has_one_result.Goals as goal

pub returns : goal.returns
returns c = patch_has_one_result
