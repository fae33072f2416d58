use Rattle.std.proofs.Common.{Option, unwrap_or, ap, sym, ◌∙◌}
use Rattle.path_model.specs.declared.role.Role.{Role}
use Rattle.path_model.specs.Roles.{Relations, role_of}
use Rattle.path_model.proofs.MapLemmas.{get_rows}
use Rattle.path_model.proofs.roles.Roles.of.Goals as goal

pub returns-in-Some : goal.returns-in-Some
returns-in-Some c =
    ap (λ (o : Option Role). unwrap_or o c.self.inside.default) (c.in-Some.ensures.value ∙ sym (get_rows c.self.inside.set.entries c.args.asn))
    ∙ ap (λ (r : Relations). role_of r c.args.asn) c.self.view_is

pub returns-in-None : goal.returns-in-None
returns-in-None c =
    ap (λ (o : Option Role). unwrap_or o c.self.inside.default) (c.in-None.ensures.value ∙ sym (get_rows c.self.inside.set.entries c.args.asn))
    ∙ ap (λ (r : Relations). role_of r c.args.asn) c.self.view_is
