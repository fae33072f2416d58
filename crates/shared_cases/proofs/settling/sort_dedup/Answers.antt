use Rattle.shared_cases.proofs.SortLemmas.{settled_rising, settled_same}
use Rattle.shared_cases.proofs.settling.sort_dedup.Goals as goal

pub returns-clause-members : goal.returns-clause-members
returns-clause-members c = λ n. settled_same c.args.numbers.now.items c.sort.new.self.items c.dedup.new.self.items c.in_ok-sort.ensures.permutation c.in_ok-sort.ensures.sorted c.dedup.ensures.filtered n

pub returns-clause-rising : goal.returns-clause-rising
returns-clause-rising c = settled_rising c.args.numbers.now.items c.sort.new.self.items c.dedup.new.self.items c.in_ok-sort.ensures.permutation c.in_ok-sort.ensures.sorted c.dedup.ensures.filtered
