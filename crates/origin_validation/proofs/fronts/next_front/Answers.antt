use Rattle.std.proofs.Common.{ℕ, ◌<◌, ◌≤◌, arith}
use Rattle.origin_validation.specs.Fronts.{HasNoCommon, HasNoFront, IsLongestCommon, IsNextFront}
use Rattle.origin_validation.proofs.FrontLemmas.{next_found, next_none, none_gives, some_gives}
use Rattle.origin_validation.proofs.fronts.next_front.Goals as goal

within : (c : goal.After-longest_common) → c.min-end.result ≤ c.args.front.now.len
within c = omega (arith, c.min-end.ensures, c.len.ensures.len)

long : (c : goal.After-longest_common) (n : ℕ) → n < c.args.front.now.len → n ≤ c.in_ok-before.before.len → n < c.min-end.result
long c n less le = omega (arith, c.min-end.ensures, c.len.ensures.len, c.len-2.ensures.len, less, le)

pub returns-clause-some : goal.returns-clause-some
returns-clause-some c = some_gives c.longest_common.result (IsLongestCommon c.in_ok-before.before c.args.front.now c.min-end.result) (IsNextFront c.args.set.now c.args.front.now)
    (next_found c.args.set.now c.args.front.now c.in_ok-before.before c.len-2.ensures.is_subnet c.in_ok-before.ensures.some c.min-end.result (within c) (long c)) c.longest_common.ensures.some

pub returns-clause-none : goal.returns-clause-none
returns-clause-none c = none_gives c.longest_common.result (HasNoCommon c.in_ok-before.before c.args.front.now c.min-end.result) (HasNoFront c.args.set.now c.args.front.now)
    (next_none c.args.set.now c.args.front.now c.in_ok-before.before c.len-2.ensures.is_subnet c.in_ok-before.ensures.some c.min-end.result (within c) (long c)) c.longest_common.ensures.none
