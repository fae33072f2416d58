use Rattle.std.proofs.Common.{◌≡◌, ℕ, ◌+◌, ◌∷◌, ap, sym, ◌∙◌, arith, rules}
use Rattle.hop_index.specs.Loose.{beside, not_below}
use Rattle.hop_index.proofs.BesideLemmas.{beside_next, beside_end}
use Rattle.hop_index.proofs.loose_neighbours.LooseNeighboursIterator.next.Goals as goal

pub returns-in-None-clause-steps : goal.returns-in-None-clause-steps
returns-in-None-clause-steps c =
    let none = sym c.self.view_is ∙ beside_end c.self.inside.x c.self.inside.loose.now c.self.inside.from c.in-None.ensures in
    (none, none)

pub returns-in-Some-clause-steps : goal.returns-in-Some-clause-steps
returns-in-Some-clause-steps c =
    let one : c.in-Some.y + 1 ≡ c.from.result + 1 = omega (arith, c.from.ensures) in
    sym c.self.view_is
    ∙ beside_next c.self.inside.x c.self.inside.loose.now c.self.inside.from c.in-Some.y c.in-Some.ensures
    ∙ ap (λ (n : ℕ). c.in-Some.y ∷ not_below n (beside c.self.inside.x c.self.inside.loose.now)) one

pub returns-in-Some-clause-goes : goal.returns-in-Some-clause-goes
returns-in-Some-clause-goes c = let e = returns-in-Some-clause-steps c in rw e (search rules)
