use Rattle.std.proofs.Common.{Some}
use Rattle.stream_lines.proofs.UntilLemmas.{one_until}
use Rattle.stream_lines.proofs.laws.until_has_one_outcome.Goals as goal

pub returns : goal.returns
returns c = λ asking moment. one_until asking (Some moment)
