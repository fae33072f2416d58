use Rattle.std.proofs.Common.{refl}
use Rattle.serde_json.specs.Data.{null}
use Rattle.slurm_rules.proofs.file.FileFields.new.Goals as goal

pub returns-clause-object : goal.returns-clause-object
returns-clause-object c = λ is.
    let filters = c.new.ensures.other null refl refl in
    let assertions = c.new-2.ensures.other null refl refl in
    record { only = is; version = refl; filters = (filters.one_is, filters.two_is); assertions = (assertions.one_is, assertions.two_is) }
