use Rattle.stream_lines.proofs.RefusalLemmas.{units_counted}
use Rattle.stream_lines.proofs.laws.refused_units_are_counted.Goals as goal

pub returns : goal.returns
returns c = units_counted
