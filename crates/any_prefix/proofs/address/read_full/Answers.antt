use Rattle.std.proofs.Common.{true, arith}
use Rattle.any_prefix.proofs.RunLemmas.{same_count}
use Rattle.any_prefix.proofs.address.read_full.Goals as goal

pub returns-then-run-lt8-clause-none : goal.returns-then-run-lt8-clause-none
returns-then-run-lt8-clause-none c = λ n full.
    let s = c.in_ok-run.ensures.some in
    let e = same_count true c.args.text.now s.groups full.groups s.is full.run (omega (arith, s.some, s.count)) (omega (arith, full.eight)) in
    omega (arith, e, s.count, full.eight, c.if-run-lt8.true)
