use Rattle.std.proofs.Common.{◌+◌, rules, arith}
use Rattle.ramps.proofs.WalkLemmas.{AreUpRamps-walked}
use Rattle.ramps.proofs.walk.up_ramps.Goals as goal

pub returns-in-Refuses-clause-are : goal.returns-in-Refuses-clause-are
returns-in-Refuses-clause-are g c = AreUpRamps-walked _ _ _ (c.loop-j.j + 1) (search rules) (λ all. omega arith) (λ all. omega arith)

pub returns-clause-are : goal.returns-clause-are
returns-clause-are g c = AreUpRamps-walked _ _ _ _ c.loop-j.invariant (λ all. omega arith) (λ all. omega arith)
