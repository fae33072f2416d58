use Rattle.attestations.proofs.PartsLemmas as parts
use Rattle.attestations.proofs.laws.parts_have_one_table.Goals as goal

pub returns : goal.returns
returns c = parts.parts_have_one_table
