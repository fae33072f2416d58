use Rattle.std.proofs.Common.{map, take}
use Rattle.json_fields.specs.Each.{Each}
use Rattle.slurm_rules.specs.Form.{prefix_filter_view}
use Rattle.slurm_rules.specs.Numbers.{IsFilterOf}
use Rattle.slurm_rules.proofs.prefixes.read_prefix_filters.Given as goal

abbrev pub invariant-loop-filter : goal.invariant-loop-filter
invariant-loop-filter l = Each IsFilterOf (map prefix_filter_view (take l.filter-index l.filters)) l.list
