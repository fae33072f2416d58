use Rattle.rtr_server.proofs.LineLemmas.{one_line}
use Rattle.rtr_server.proofs.laws.serve_lines_have_one_outcome.Goals as goal

pub returns : goal.returns
returns c = one_line
