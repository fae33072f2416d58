use Rattle.std.proofs.Common.{ℕ, List, map, take, Option}
use Rattle.json_fields.specs.Each.{Each}
use Rattle.slurm_rules.specs.Form.{prefix_filter_view}
use Rattle.slurm_rules.specs.Numbers.{HasFilteredAsn}
use Rattle.slurm_rules.proofs.numbers.are_filtered_asns.Given as goal

abbrev pub invariant-loop-filter : goal.invariant-loop-filter
invariant-loop-filter l = (asns : List (Option ℕ)) × Each HasFilteredAsn (map prefix_filter_view (take l.filter-index l.filters)) asns
