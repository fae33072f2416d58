use Rattle.hop_index.specs.Index.{has}
use Rattle.hop_index.proofs.ThroughLemmas.{ends_reach}
use Rattle.hop_index.proofs.laws.ends_reach_cases.Goals as goal

pub returns : goal.returns
returns c = λ index. ends_reach (has index)
