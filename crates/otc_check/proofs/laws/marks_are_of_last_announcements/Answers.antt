use Rattle.otc_check.proofs.LawLemmas.{last_announced}
use Rattle.otc_check.proofs.laws.marks_are_of_last_announcements.Goals as goal

pub returns : goal.returns
returns c = last_announced
