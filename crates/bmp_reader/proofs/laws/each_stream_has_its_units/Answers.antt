use Rattle.bmp_reader.proofs.UnitLemmas.{its_units}
use Rattle.bmp_reader.proofs.laws.each_stream_has_its_units.Goals as goal

pub returns : goal.returns
returns c = its_units
