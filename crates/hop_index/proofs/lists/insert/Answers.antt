use Rattle.std.proofs.Common.{arith}
use Rattle.hop_index.proofs.KeptLemmas.{kept_first}
use Rattle.hop_index.proofs.lists.insert.Goals as goal

pub returns-in_ok-insert-3-clause-kept : goal.returns-in_ok-insert-3-clause-kept
returns-in_ok-insert-3-clause-kept c = λ kept.
    kept_first c.args.ends.now.entries c.args.hops.now c.insert.new.self c.args.x c.args.y c.args.case c.of.result c.of.ensures kept
    c.insert-then-branch.new.ends.entries c.insert-then-branch-2.new.ends.entries (omega (arith, c.ranges.case.fits))
    c.in_ok-insert.ensures.added c.in_ok-insert.ensures.stands c.in_ok-insert.ensures.kept c.in_ok-insert.ensures.rising
    c.in_ok-insert-2.ensures.added c.in_ok-insert-2.ensures.kept c.in_ok-insert-3.ensures.added c.in_ok-insert-3.ensures.kept
