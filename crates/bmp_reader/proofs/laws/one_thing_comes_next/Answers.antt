use Rattle.bmp_reader.proofs.LawLemmas.{one_thing_comes}
use Rattle.bmp_reader.proofs.laws.one_thing_comes_next.Goals as goal

pub returns : goal.returns
returns c = one_thing_comes
