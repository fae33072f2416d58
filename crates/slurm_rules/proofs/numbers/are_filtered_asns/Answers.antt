use Rattle.std.proofs.Common.{◌∷◌, ◌++◌, [], refl, arith}
use Rattle.slurm_rules.specs.Form.{prefix_filter_view}
use Rattle.slurm_rules.specs.Numbers.{HasFilteredAsn}
use Rattle.json_fields.proofs.EachLemmas.{each_grown, each_refused, each_whole}
use Rattle.slurm_rules.proofs.numbers.are_filtered_asns.Goals as goal

pub loop-filter-init : goal.loop-filter-init
loop-filter-init c = ([], tt)

pub returns-in_default : goal.returns-in_default
returns-in_default c = each_refused HasFilteredAsn prefix_filter_view c.args.filters.now c.loop-filter.filter-index c.filter-item.result c.loop-filter-test.true c.filter-item.is c.in_default.ensures.none

pub loop-filter-preserved : goal.loop-filter-preserved
loop-filter-preserved c = (
  c.loop-filter.invariant.0 ++ c.in-Some._asn ∷ [],
  each_grown HasFilteredAsn prefix_filter_view c.args.filters.now c.loop-filter.filter-index c.filter-item.result c.loop-filter.invariant.0 _ c.in-Some._asn c.loop-filter-test.true c.filter-item.is c.loop-filter.invariant.1 c.in-Some.ensures.some refl,
)

pub returns : goal.returns
returns c = (c.loop-filter.invariant.0, each_whole HasFilteredAsn prefix_filter_view c.args.filters.now c.loop-filter.filter-index c.loop-filter.invariant.0 (omega arith) c.loop-filter.invariant.1)
