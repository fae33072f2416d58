use Rattle.std.proofs.Common.{ℕ, List, map, take}
use Rattle.json_fields.specs.Each.{Each}
use Rattle.slurm_rules.specs.Form.{prefix_assertion_view}
use Rattle.slurm_rules.specs.Numbers.{HasAssertedAsn}
use Rattle.slurm_rules.proofs.numbers.are_asserted_asns.Given as goal

abbrev pub invariant-loop-assertion : goal.invariant-loop-assertion
invariant-loop-assertion l = (asns : List (ℕ)) × Each HasAssertedAsn (map prefix_assertion_view (take l.assertion-index l.assertions)) asns
