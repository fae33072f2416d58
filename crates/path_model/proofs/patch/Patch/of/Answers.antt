use Rattle.std.proofs.Common.{ap, sym, ◌∙◌}
use Rattle.std.specs.FinMap as map
use Rattle.path_model.specs.Rows.{PatchMap}
use Rattle.path_model.proofs.MapLemmas.{get_rows}
use Rattle.path_model.proofs.patch.Patch.of.Goals as goal

pub returns-clause-said : goal.returns-clause-said
returns-clause-said c = c.get.ensures.value ∙ sym (get_rows c.self.inside.rows.entries c.args.customer) ∙ ap (λ (m : PatchMap). map.get m c.args.customer) c.self.view_is
