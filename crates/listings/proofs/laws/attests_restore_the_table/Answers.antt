use Rattle.listings.proofs.RestoreLemmas.{attests_restore}
use Rattle.listings.proofs.laws.attests_restore_the_table.Goals as goal

pub returns : goal.returns
returns c = attests_restore
