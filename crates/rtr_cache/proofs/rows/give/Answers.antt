use Rattle.std.proofs.Common.{ℕ, List, ap, subst, ◌∙◌}
use Rattle.std.specs.FinMap as map
use Rattle.path_model.specs.Rows.{RowMap, SetsRow}
use Rattle.rtr_cache.proofs.FollowingLemmas.{row_gone, row_set}
use Rattle.rtr_cache.proofs.rows.give.Goals as goal

pub returns-in_ok-set-in-Some : goal.returns-in_ok-set-in-Some
returns-in_ok-set-in-Some c = rw c.in-Some.is (row_set c.args.rows.now c.set.new.self c.args.customer c.in-Some.row.now (rw c.in-Some.is at c.requires)
    (subst (λ (l : List ℕ). SetsRow c.args.rows.now c.args.customer l c.set.new.self) c.in_ok-copy-in-Some.ensures c.in_ok-set-in-Some.ensures.ok))

pub returns-in-None : goal.returns-in-None
returns-in-None c = rw c.in-None.is (λ q. ap (λ (m : RowMap). map.get m q) c.remove.ensures ∙ row_gone c.args.rows.now c.args.customer q)
