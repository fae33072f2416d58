use Rattle.std.proofs.Common.{codes}
use Rattle.slurm_rules.proofs.KeptLemmas.{no_assertions, no_filters}
use Rattle.slurm_rules.proofs.file.File.into_draft.Goals as goal

pub returns-in_err-filters : goal.returns-in_err-filters
returns-in_err-filters c = λ d is. rw c.from_residual.ensures (λ form h.
    let this = codes "validationOutputFilters" in
    no_filters c.args.version this d (c.in_err-filters.ensures this d is.filters) form.filters h.filters)

pub returns-in_err-assertions : goal.returns-in_err-assertions
returns-in_err-assertions c = λ d is. rw c.from_residual-in_err-assertions.ensures (λ form h.
    let this = codes "locallyAddedAssertions" in
    no_assertions c.args.version this d (c.in_err-assertions.ensures this d is.assertions) form.assertions h.assertions)
