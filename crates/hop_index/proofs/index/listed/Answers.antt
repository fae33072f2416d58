use Rattle.std.proofs.Common.{ℕ, List, subst, arith}
use Rattle.hop_index.specs.Lists.{Adds}
use Rattle.hop_index.proofs.ListingLemmas.{none_come, one_come, all_come}
use Rattle.hop_index.proofs.index.listed.Goals as goal

pub loop-case-init : goal.loop-case-init
loop-case-init c = none_come c.args.loose.now c.new-lists.result c.new-lists.ensures

pub loop-case-preserved : goal.loop-case-preserved
loop-case-preserved c =
    one_come c.args.loose.now c.loop-case.case c.loop-case.lists c.add.new.self c.loop-case.invariant
    (subst (λ (chain : List ℕ). Adds c.loop-case.lists c.loop-case.case chain c.add.new.self) c.get.ensures c.in_ok-add.ensures)

pub returns : goal.returns
returns c = all_come c.args.loose.now c.loop-case.case c.loop-case.lists (omega (arith, c.loop-case-test.false, c.len-case-end.ensures)) c.loop-case.invariant
