use Rattle.otc_check.proofs.LawLemmas.{last_withdrawn, last_ended, others_stay}
use Rattle.otc_check.proofs.laws.marks_go_with_their_routes.Goals as goal

pub returns-clause-withdrawn : goal.returns-clause-withdrawn
returns-clause-withdrawn c = last_withdrawn

pub returns-clause-ended : goal.returns-clause-ended
returns-clause-ended c = last_ended

pub returns-clause-others : goal.returns-clause-others
returns-clause-others c = others_stay
