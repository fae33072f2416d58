use Rattle.std.proofs.Common.{refl}
use Rattle.serde_json.specs.View.{number_view}
use Rattle.slurm_rules.specs.Numbers.{IsAsn}
use Rattle.json_fields.proofs.EachLemmas.{each_grown, each_refused}
use Rattle.slurm_rules.proofs.numbers.read_asns.Goals as goal

pub returns-in_default : goal.returns-in_default
returns-in_default c = (refl, each_refused IsAsn number_view c.args.numbers.now c.loop-number.number-index c.number-item.result c.loop-number-test.true c.number-item.is c.in_default.ensures.none)

pub loop-number-preserved : goal.loop-number-preserved
loop-number-preserved c =
    each_grown IsAsn number_view c.args.numbers.now c.loop-number.number-index c.number-item.result _ _ c.in-Some.asn c.loop-number-test.true c.number-item.is c.loop-number.invariant c.in-Some.ensures.some c.in_ok-push.ensures.ok
