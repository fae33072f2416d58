use Rattle.bgp_update.proofs.NoteLemmas.{each_has_note}
use Rattle.bgp_update.proofs.laws.each_announcement_has_its_note.Goals as goal

pub returns : goal.returns
returns c = each_has_note
