use Rattle.mrt_reader.proofs.RecordLemmas.{one_record}
use Rattle.mrt_reader.proofs.laws.no_record_begins_another.Goals as goal

pub returns : goal.returns
returns c = one_record
