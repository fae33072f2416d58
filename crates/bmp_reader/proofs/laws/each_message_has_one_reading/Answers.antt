use Rattle.bmp_reader.proofs.ReadingLemmas.{one_reading}
use Rattle.bmp_reader.proofs.laws.each_message_has_one_reading.Goals as goal

pub returns : goal.returns
returns c = one_reading
