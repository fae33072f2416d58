use Rattle.std.proofs.Common.{refl, arith}
use Rattle.slurm_rules.specs.Form.{prefix_assertion_view}
use Rattle.slurm_rules.specs.Numbers.{IsPayloadOf}
use Rattle.json_fields.proofs.EachLemmas.{each_refused}
use Rattle.slurm_rules.proofs.PrefixesLemmas.{asserting_end, asserting_next, asserting_start}
use Rattle.slurm_rules.proofs.prefixes.read_prefix_assertions.Goals as goal

pub loop-assertion-init : goal.loop-assertion-init
loop-assertion-init c = asserting_start c.args.assertions.now c.new-set.result c.new-set.ensures

pub returns-in_default : goal.returns-in_default
returns-in_default c = (refl, λ set h. each_refused IsPayloadOf prefix_assertion_view c.args.assertions.now c.loop-assertion.assertion-index c.assertion-item.result c.loop-assertion-test.true c.assertion-item.is c.in_default.ensures.none h.payloads h.each)

pub loop-assertion-preserved : goal.loop-assertion-preserved
loop-assertion-preserved c =
    asserting_next c.args.assertions.now c.loop-assertion.assertion-index c.assertion-item.result c.loop-assertion.set c.add.new.self c.in-Some.vrp c.loop-assertion-test.true c.assertion-item.is
    c.loop-assertion.invariant c.in-Some.ensures.some c.in_ok-add.ensures.gains

pub returns : goal.returns
returns c = asserting_end c.args.assertions.now c.loop-assertion.assertion-index c.loop-assertion.set (omega arith) c.loop-assertion.invariant c.entries-entries.ensures.rising
