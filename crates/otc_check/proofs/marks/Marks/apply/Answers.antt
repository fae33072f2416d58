use Rattle.std.proofs.Common.{sym, ◌∙◌}
use Rattle.otc_check.proofs.NotingLemmas.{none_noted}
use Rattle.otc_check.proofs.marks.Marks.apply.Goals as goal

pub returns-then-are_absent : goal.returns-then-are_absent
returns-then-are_absent c = none_noted c.args.noted.now.changes c.args.noted.now.notes c.args.self (c.is_empty.ensures.0 c.if-is_empty.true) (sym c.are_absent.ensures ∙ c.if-are_absent.true)
