use Rattle.std.proofs.Common.{subst, ◌∙◌}
use Rattle.hop_index.specs.Held.{AreBelow}
use Rattle.hop_index.proofs.ListLemmas.{above_all}
use Rattle.hop_index.proofs.listed.insert.Goals as goal

pub returns-then-are_below-clause-inserted : goal.returns-then-are_below-clause-inserted
returns-then-are_below-clause-inserted c =
    c.in_ok-push.ensures.items
    ∙ above_all c.args.number c.args.numbers.now.items (subst (AreBelow c.args.number) c.deref.ensures.value (c.are_below.ensures c.if-are_below.true))
