use Rattle.std.proofs.Common.{ap, ◌∙◌}
use Rattle.path_model.specs.Roles.{Relations, set_role}
use Rattle.path_model.proofs.MapLemmas.{row_inserted}
use Rattle.path_model.proofs.roles.Roles.set.Goals as goal

pub returns-clause-ok : goal.returns-clause-ok
returns-clause-ok c =
    ap (λ m. record { set = m; default = c.self.inside.default }) (row_inserted c.self.inside.set.entries c.insert.new.self.entries c.args.asn c.args.role c.in_ok-insert.ensures.updates.0)
    ∙ ap (λ (r : Relations). set_role r c.args.asn c.args.role) c.self.view_is
