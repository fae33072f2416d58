use Rattle.std.proofs.Common.{sym, ◌∙◌, arith, rules, ◌≡◌, true, false}
use Rattle.hop_index.specs.Hops.{has_hop}
use Rattle.hop_index.proofs.LooseLemmas.{over_one, over_none, over_all}
use Rattle.hop_index.proofs.loose_between.LooseBetweenIterator.next.Goals as goal

pub loop-self-init : goal.loop-self-init
loop-self-init c = c.self.view_is

pub returns-then-joins-clause-steps : goal.returns-then-joins-clause-steps
returns-then-joins-clause-steps c =
    let within = rw c.len.ensures at c.loop-self-test.true in
    let there : has_hop c.get.result.now c.loop-self.self-inside.x c.loop-self.self-inside.y ≡ true = sym c.joins.ensures ∙ c.if-joins.true in
    sym c.loop-self.invariant ∙ over_one c.loop-self.self-inside.x c.loop-self.self-inside.y _ c.loop-self.self-inside.loose.now within (rw c.get.ensures at there)

pub returns-then-joins-clause-goes : goal.returns-then-joins-clause-goes
returns-then-joins-clause-goes c =
    let e = returns-then-joins-clause-steps c in
    rw e (search rules)

pub loop-self-smaller : goal.loop-self-smaller
loop-self-smaller c = omega (arith, c.loop-self-test.true, c.len.ensures)

pub loop-self-preserved : goal.loop-self-preserved
loop-self-preserved c =
    let within = rw c.len.ensures at c.loop-self-test.true in
    let none : has_hop c.get.result.now c.loop-self.self-inside.x c.loop-self.self-inside.y ≡ false = sym c.joins.ensures ∙ c.if-joins.false in
    sym (over_none c.loop-self.self-inside.x c.loop-self.self-inside.y _ c.loop-self.self-inside.loose.now within (rw c.get.ensures at none)) ∙ c.loop-self.invariant

pub returns-clause-steps : goal.returns-clause-steps
returns-clause-steps c =
    let all = over_all c.loop-self.self-inside.x c.loop-self.self-inside.y c.loop-self.self-inside.next c.loop-self.self-inside.loose.now (omega (arith, c.loop-self-test.false, c.len.ensures)) in
    (sym c.loop-self.invariant ∙ all, all)
