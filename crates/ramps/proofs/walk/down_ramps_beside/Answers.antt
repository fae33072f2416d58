use Rattle.std.proofs.Common.{◌+◌, rules, arith}
use Rattle.std.proofs.lemmas.Bool.Decides.{nat_tests}
use Rattle.ramps.proofs.WalkLemmas.{CountBeside-walked}
use Rattle.ramps.proofs.walk.down_ramps_beside.Goals as goal

pub returns-then-up-ramp-2-clause-count : goal.returns-then-up-ramp-2-clause-count
returns-then-up-ramp-2-clause-count g c =
    CountBeside-walked _ _ _ _ _ c.loop-j.invariant (omega arith) (λ all. omega arith) (λ all. grind (arith, nat_tests))

pub returns-in-Refuses-clause-count : goal.returns-in-Refuses-clause-count
returns-in-Refuses-clause-count g c =
    CountBeside-walked _ _ _ _ (c.loop-j.j + 1) (search rules) (omega arith) (λ all. omega arith) (λ all. omega arith)

pub returns-clause-count : goal.returns-clause-count
returns-clause-count g c = CountBeside-walked _ _ _ _ _ c.loop-j.invariant (omega arith) (λ all. omega arith) (λ all. omega arith)
