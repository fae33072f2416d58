use Rattle.bmp_reader.proofs.OpenLemmas.{no_opening}
use Rattle.bmp_reader.proofs.opening.take_opening.Goals as goal

pub returns-in_err-rest : goal.returns-in_err-rest
returns-in_err-rest c = rw c.from_residual.ensures (no_opening c.args.bytes.now c.in_err-rest.ensures.none)
