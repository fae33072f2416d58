use Rattle.std.proofs.Common.{ℕ, List, ap, ◌∙◌}
use Rattle.hop_index.specs.Ends.{listed_at}
use Rattle.hop_index.specs.Lists.{Lists, has}
use Rattle.hop_index.specs.Numbers.{has_number, numbers_or}
use Rattle.hop_index.proofs.ThroughLemmas.{ends_exact, ends_rise, neighbours_whole}
use Rattle.hop_index.proofs.lists.HopLists.through.Goals as goal

pub returns-clause-exact : goal.returns-clause-exact
returns-clause-exact c = λ y n.
    ends_exact (listed_at c.self.inside.hops c.args.x) (numbers_or c.of.result)
    (neighbours_whole c.self.inside.ends.entries c.self.inside.hops c.args.x (numbers_or c.of.result) c.self.invariant.joined
    (λ y. ap (λ (ys : List ℕ). has_number ys y) c.of.ensures.whole)) y n
    ∙ ap (λ (lists : Lists). has lists c.args.x y n) c.self.view_is

pub returns-clause-rising : goal.returns-clause-rising
returns-clause-rising c =
    ends_rise (listed_at c.self.inside.hops c.args.x) (numbers_or c.of.result) (λ y. c.self.invariant.rising _) c.of.ensures.rising
