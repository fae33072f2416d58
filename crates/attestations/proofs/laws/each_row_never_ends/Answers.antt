use Rattle.attestations.proofs.EntryLemmas.{each_never_ends}
use Rattle.attestations.proofs.laws.each_row_never_ends.Goals as goal

pub returns : goal.returns
returns c = each_never_ends
