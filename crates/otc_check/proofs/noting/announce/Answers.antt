use Rattle.otc_check.proofs.MapLemmas.{mark_put}
use Rattle.otc_check.proofs.noting.announce.Goals as goal

pub returns-in_ok-insert-in-As : goal.returns-in_ok-insert-in-As
returns-in_ok-insert-in-As c = mark_put c.args.marks.now c.insert.new.self c.args.key c.args.otc c.in-As.is c.in_ok-insert-in-As.ensures.updates
