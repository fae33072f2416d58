use Rattle.mrt_reader.proofs.SomeLemmas.{one_reading}
use Rattle.mrt_reader.proofs.laws.each_record_has_one_reading.Goals as goal

pub returns : goal.returns
returns c = one_reading
