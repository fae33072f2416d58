use Rattle.std.proofs.Common.{refl}
use Rattle.slurm_rules.specs.Form.{prefix_filter_view}
use Rattle.slurm_rules.specs.Numbers.{IsFilterOf}
use Rattle.json_fields.proofs.EachLemmas.{each_grown, each_refused}
use Rattle.slurm_rules.proofs.prefixes.read_prefix_filters.Goals as goal

pub returns-in_default : goal.returns-in_default
returns-in_default c = (refl, each_refused IsFilterOf prefix_filter_view c.args.filters.now c.loop-filter.filter-index c.filter-item.result c.loop-filter-test.true c.filter-item.is c.in_default.ensures.none)

pub loop-filter-preserved : goal.loop-filter-preserved
loop-filter-preserved c =
    each_grown IsFilterOf prefix_filter_view c.args.filters.now c.loop-filter.filter-index c.filter-item.result _ _ c.in-Some.read c.loop-filter-test.true c.filter-item.is c.loop-filter.invariant c.in-Some.ensures.some c.in_ok-push.ensures.ok
