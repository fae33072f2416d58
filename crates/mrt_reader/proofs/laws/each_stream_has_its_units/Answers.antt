use Rattle.mrt_reader.proofs.UnitLemmas.{its_units}
use Rattle.mrt_reader.proofs.laws.each_stream_has_its_units.Goals as goal

pub returns : goal.returns
returns c = its_units
