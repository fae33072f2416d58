use Rattle.otc_check.proofs.UnitLemmas.{marks_go_on}
use Rattle.otc_check.proofs.laws.marks_go_on.Goals as goal

pub returns : goal.returns
returns c = marks_go_on
