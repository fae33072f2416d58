use Rattle.std.proofs.Common.{◌∷◌, ◌++◌, [], refl, arith}
use Rattle.slurm_rules.specs.Form.{prefix_assertion_view}
use Rattle.slurm_rules.specs.Numbers.{HasAssertedAsn}
use Rattle.json_fields.proofs.EachLemmas.{each_grown, each_refused, each_whole}
use Rattle.slurm_rules.proofs.numbers.are_asserted_asns.Goals as goal

pub loop-assertion-init : goal.loop-assertion-init
loop-assertion-init c = ([], tt)

pub returns-in_default : goal.returns-in_default
returns-in_default c = each_refused HasAssertedAsn prefix_assertion_view c.args.assertions.now c.loop-assertion.assertion-index c.assertion-item.result c.loop-assertion-test.true c.assertion-item.is c.in_default.ensures.none

pub loop-assertion-preserved : goal.loop-assertion-preserved
loop-assertion-preserved c = (
  c.loop-assertion.invariant.0 ++ c.in-Some._asn ∷ [],
  each_grown HasAssertedAsn prefix_assertion_view c.args.assertions.now c.loop-assertion.assertion-index c.assertion-item.result c.loop-assertion.invariant.0 _ c.in-Some._asn c.loop-assertion-test.true c.assertion-item.is c.loop-assertion.invariant.1 c.in-Some.ensures.some refl,
)

pub returns : goal.returns
returns c = (c.loop-assertion.invariant.0, each_whole HasAssertedAsn prefix_assertion_view c.args.assertions.now c.loop-assertion.assertion-index c.loop-assertion.invariant.0 (omega arith) c.loop-assertion.invariant.1)
