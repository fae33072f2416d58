use Rattle.std.proofs.Common.{map, arith}
use Rattle.std.proofs.lemmas.Result.{err_from_is_err_and}
use Rattle.slurm_rules.specs.Form.{assertion_view}
use Rattle.slurm_rules.specs.Numbers.{Attests, AreAssertions, attested_view}
use Rattle.slurm_rules.specs.declared.fault.SlurmFault.TheVariants.{Number}
use Rattle.json_fields.proofs.EachLemmas.{each_refused}
use Rattle.slurm_rules.proofs.EachLemmas.{misses_by}
use Rattle.slurm_rules.proofs.NumbersLemmas.{gathering_start, gathering_next, gathering_end}
use Rattle.slurm_rules.proofs.numbers.read_assertions.Goals as goal

pub loop-assertion-init : goal.loop-assertion-init
loop-assertion-init c = gathering_start c.args.assertions.now c.new-gathered.result c.new-gathered.ensures

pub returns-in_err-attested : goal.returns-in_err-attested
returns-in_err-attested c =
    let p = err_from_is_err_and c.from_residual.result c.from_residual.ensures.1 in
    rw (p.1, p.2) (misses_by Number (Attests (assertion_view c.assertion-item.result)) (AreAssertions (map assertion_view c.args.assertions.now)) _
    (λ never rows h. each_refused Attests assertion_view c.args.assertions.now c.loop-assertion.assertion-index c.assertion-item.result c.loop-assertion-test.true c.assertion-item.is never h.attestations h.each)
    c.in_err-attested.ensures)

pub loop-assertion-preserved : goal.loop-assertion-preserved
loop-assertion-preserved c =
    gathering_next c.args.assertions.now c.loop-assertion.assertion-index c.assertion-item.result c.loop-assertion.gathered c.gather.new.self (attested_view c.in_ok-attested.attested) c.loop-assertion-test.true c.assertion-item.is
    c.loop-assertion.invariant c.in_ok-attested.ensures c.as_slice.result.now c.as_slice.ensures c.in_ok-gather.ensures.ok

pub returns : goal.returns
returns c =
    gathering_end c.args.assertions.now c.loop-assertion.gathered c.in_ok-into_rows.field-0 c.loop-assertion.assertion-index (omega arith) c.loop-assertion.invariant c.in_ok-into_rows.ensures
