use Rattle.otc_check.proofs.LeakLemmas.{has_one_leak}
use Rattle.otc_check.proofs.laws.each_case_has_one_leak.Goals as goal

pub returns : goal.returns
returns c = has_one_leak
