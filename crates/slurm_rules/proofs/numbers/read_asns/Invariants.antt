use Rattle.std.proofs.Common.{map, take}
use Rattle.serde_json.specs.View.{number_view}
use Rattle.json_fields.specs.Each.{Each}
use Rattle.slurm_rules.specs.Numbers.{IsAsn}
use Rattle.slurm_rules.proofs.numbers.read_asns.Given as goal

abbrev pub invariant-loop-number : goal.invariant-loop-number
invariant-loop-number l = Each IsAsn (map number_view (take l.number-index l.numbers)) l.asns
