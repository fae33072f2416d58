use Rattle.std.proofs.Common.{codes, refl, sym, ◌∙◌}
use Rattle.json_fields.proofs.ObjectLemmas.{get_same, get_other, not_that, number_other}
use Rattle.slurm_rules.proofs.file.FileFields.keep.Goals as goal

pub returns-then-eq : goal.returns-then-eq
returns-then-eq c =
    let here = c.in_ok-self.ensures in
    let k = c.args.name.now in
    let this = codes "validationOutputFilters" in
    let same = sym c.eq.ensures ∙ c.if-eq.true in (
      here.0,
      here.1,
      λ ms is. record {
        only = c.only_after.ensures here.0 ms is.only;
        version = is.version ∙ number_other (codes "slurmVersion") k here.0 ms (not_that k this (codes "slurmVersion") same refl);
        filters = rw (get_same this k here.0 ms same) here.2;
        assertions = rw (get_other (codes "locallyAddedAssertions") k here.0 ms (not_that k this (codes "locallyAddedAssertions") same refl)) is.assertions;
      },
    )

pub returns-then-eq-2 : goal.returns-then-eq-2
returns-then-eq-2 c =
    let here = c.in_ok-self-2.ensures in
    let k = c.args.name.now in
    let this = codes "locallyAddedAssertions" in
    let same = sym c.eq-2.ensures ∙ c.if-eq-2.true in (
      here.0,
      here.1,
      λ ms is. record {
        only = c.only_after.ensures here.0 ms is.only;
        version = is.version ∙ number_other (codes "slurmVersion") k here.0 ms (not_that k this (codes "slurmVersion") same refl);
        filters = rw (get_other (codes "validationOutputFilters") k here.0 ms (sym c.eq.ensures ∙ c.if-eq.false)) is.filters;
        assertions = rw (get_same this k here.0 ms same) here.2;
      },
    )

pub returns : goal.returns
returns c =
    let here = c.in_ok-kind.ensures in
    let k = c.args.name.now in (
      here.0,
      here.1,
      λ ms is. record {
        only = c.only_after.ensures here.0 ms is.only;
        version = c.number_after-self.ensures here.0 ms here.2 is.version;
        filters = rw (get_other (codes "validationOutputFilters") k here.0 ms (sym c.eq.ensures ∙ c.if-eq.false)) is.filters;
        assertions = rw (get_other (codes "locallyAddedAssertions") k here.0 ms (sym c.eq-2.ensures ∙ c.if-eq-2.false)) is.assertions;
      },
    )
