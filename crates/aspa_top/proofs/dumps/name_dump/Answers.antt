use Rattle.std.proofs.Common.{refl, ◌∙◌}
use Rattle.rtr_client.proofs.NamedLemmas.{at_name}
use Rattle.aspa_top.proofs.dumps.name_dump.Goals as goal

pub returns : goal.returns
returns c = record { dumps = λ other. c.in_ok-insert.ensures.updates.0 other ∙ at_name c.args.name other _ _; left = refl }
