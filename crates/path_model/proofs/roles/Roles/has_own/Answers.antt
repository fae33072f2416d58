use Rattle.std.proofs.Common.{Option, is_some, ap, sym, ◌∙◌}
use Rattle.std.specs.FinMap as map
use Rattle.path_model.specs.Roles.{Relations}
use Rattle.path_model.specs.declared.role.Role.{Role}
use Rattle.path_model.proofs.MapLemmas.{get_rows}
use Rattle.path_model.proofs.roles.Roles.has_own.Goals as goal

pub returns : goal.returns
returns c =
    c.contains_key.ensures
    ∙ ap (λ (o : Option Role). is_some o) (sym (get_rows c.self.inside.set.entries c.args.asn))
    ∙ ap (λ (r : Relations). is_some (map.get r.set c.args.asn)) c.self.view_is
