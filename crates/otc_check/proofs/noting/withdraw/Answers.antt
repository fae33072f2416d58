use Rattle.otc_check.proofs.MapLemmas.{mark_taken}
use Rattle.otc_check.proofs.noting.withdraw.Goals as goal

pub returns : goal.returns
returns c = mark_taken c.args.marks.now c.remove.new.self c.args.key.now c.remove.ensures.updates
