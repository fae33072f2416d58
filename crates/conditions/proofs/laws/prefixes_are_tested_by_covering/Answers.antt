use Rattle.conditions.proofs.CoverLemmas.{tested_by_covering}
use Rattle.conditions.proofs.laws.prefixes_are_tested_by_covering.Goals as goal

pub returns : goal.returns
returns c = tested_by_covering
