use Rattle.slurm_rules.proofs.NumbersLemmas.{Gathering}
use Rattle.slurm_rules.proofs.numbers.read_assertions.Given as goal

abbrev pub invariant-loop-assertion : goal.invariant-loop-assertion
invariant-loop-assertion l = Gathering l.assertions l.assertion-index l.gathered
