use Rattle.stated_workload.proofs.WorkloadLawLemmas.{has_one_workload}
use Rattle.stated_workload.proofs.laws.each_seed_has_one_workload.Goals as goal

pub returns : goal.returns
returns c = has_one_workload
