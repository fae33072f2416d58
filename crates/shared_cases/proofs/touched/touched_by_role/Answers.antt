use Rattle.std.proofs.Common.{sym, subst, nat_cmp}
use Rattle.std.specs.List.Sorted.{IsStrictlySortedBy}
use Rattle.shared_cases.proofs.touched.touched_by_role.Goals as goal

pub returns-then-is_same_role-clause-rising : goal.returns-then-is_same_role-clause-rising
unfolding IsStrictlySortedBy
returns-then-is_same_role-clause-rising c = subst (IsStrictlySortedBy nat_cmp) (sym c.new.ensures.items) tt
