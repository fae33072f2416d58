use Rattle.slurm_rules.proofs.PrefixesLemmas.{Asserting}
use Rattle.slurm_rules.proofs.prefixes.read_prefix_assertions.Given as goal

abbrev pub invariant-loop-assertion : goal.invariant-loop-assertion
invariant-loop-assertion l = Asserting l.assertions l.assertion-index l.set
