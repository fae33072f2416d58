use Rattle.stream_lines.proofs.LawLemmas.{one_outcome}
use Rattle.stream_lines.proofs.laws.units_have_one_outcome.Goals as goal

pub returns : goal.returns
returns c = one_outcome
