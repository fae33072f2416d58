use Rattle.attestations.proofs.PartsLemmas.{table_is_current}
use Rattle.attestations.proofs.laws.computed_is_current.Goals as goal

pub returns : goal.returns
returns c = table_is_current
