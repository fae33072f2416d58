use Rattle.rib_store.proofs.ReportLemmas.{has_one_report}
use Rattle.rib_store.proofs.laws.each_state_has_one_report.Goals as goal

pub returns : goal.returns
returns c = has_one_report
