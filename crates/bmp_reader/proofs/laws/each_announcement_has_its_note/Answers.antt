use Rattle.bmp_reader.proofs.NoteLemmas.{each_has_note}
use Rattle.bmp_reader.proofs.laws.each_announcement_has_its_note.Goals as goal

pub returns : goal.returns
returns c = each_has_note
