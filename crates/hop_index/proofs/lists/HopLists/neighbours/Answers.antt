use Rattle.std.proofs.Common.{ℕ, List, ap, subst, ◌∙◌}
use Rattle.hop_index.specs.Lists.{Lists, has, SomeCaseHas}
use Rattle.hop_index.specs.Numbers.{has_number, numbers_or}
use Rattle.hop_index.proofs.ThroughLemmas.{neighbours_whole, neighbours_only}
use Rattle.hop_index.proofs.lists.HopLists.neighbours.Goals as goal

pub returns-clause-whole : goal.returns-clause-whole
returns-clause-whole c = λ y n there.
    neighbours_whole c.self.inside.ends.entries c.self.inside.hops c.args.x (numbers_or c.of.result) c.self.invariant.joined
    (λ z. ap (λ (ys : List ℕ). has_number ys z) c.of.ensures.whole) y n
    (ap (λ (lists : Lists). has lists c.args.x y n) c.self.view_is ∙ there)

pub returns-clause-only : goal.returns-clause-only
returns-clause-only c = λ y there.
    subst (λ (lists : Lists). SomeCaseHas lists c.args.x y) c.self.view_is
    (neighbours_only c.self.inside.ends.entries c.self.inside.hops c.args.x (numbers_or c.of.result) c.self.invariant.joined c.self.invariant.cases
    (λ z. ap (λ (ys : List ℕ). has_number ys z) c.of.ensures.whole) y there)
