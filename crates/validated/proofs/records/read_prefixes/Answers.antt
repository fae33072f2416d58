use Rattle.std.proofs.Common.{map, sym, subst}
use Rattle.slurm_rules.specs.Form.{prefix_assertion_view}
use Rattle.slurm_rules.specs.Numbers.{ArePrefixAssertions}
use Rattle.validated.specs.Answers.{Misses}
use Rattle.validated.specs.declared.fault.ValidatedFault.{ValidatedFault}
use Rattle.validated.specs.declared.fault.ValidatedFault.TheVariants.{Prefix}
use Rattle.validated.proofs.AnswerLemmas.{slurm_missed}
use Rattle.validated.proofs.records.read_prefixes.Goals as goal

pub returns-in-Err : goal.returns-in-Err
returns-in-Err c =
    subst (λ (fault : ValidatedFault). Misses Prefix fault (ArePrefixAssertions (map prefix_assertion_view c.args.assertions.now))) (sym c.of_slurm.ensures)
    (slurm_missed (ArePrefixAssertions (map prefix_assertion_view c.args.assertions.now)) c.in-Err.fault c.in-Err.ensures)
