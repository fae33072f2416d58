use Rattle.hop_index.proofs.KeptLemmas.{kept_last}
use Rattle.hop_index.proofs.lists.remove.Goals as goal

pub returns-then-remove-clause-kept : goal.returns-then-remove-clause-kept
returns-then-remove-clause-kept c = λ kept.
    kept_last c.args.ends.now.entries c.args.hops.now c.remove.new.self c.args.x c.args.y c.args.case c.of.result c.of.ensures kept
    c.remove-then-remove.new.ends.entries c.remove-then-remove-2.new.ends.entries c.remove.result c.if-remove.true
    c.remove.ensures.removed c.remove.ensures.stands c.remove.ensures.kept c.remove.ensures.rising
    c.remove-then-remove.ensures.removed c.remove-then-remove.ensures.kept c.remove-then-remove-2.ensures.removed c.remove-then-remove-2.ensures.kept
