use Rattle.bmp_reader.proofs.MessageLemmas.{one_message}
use Rattle.bmp_reader.proofs.laws.no_message_begins_another.Goals as goal

pub returns : goal.returns
returns c = one_message
