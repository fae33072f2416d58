use Rattle.std.proofs.Common.{ap, sym, ◌∙◌}
use Rattle.std.specs.FinMap as map
use Rattle.path_model.specs.Rows.{RowMap}
use Rattle.path_model.proofs.MapLemmas.{get_rows}
use Rattle.path_model.proofs.rows.Rows.row.Goals as goal

pub returns-clause-row : goal.returns-clause-row
returns-clause-row c = c.get.ensures.value ∙ sym (get_rows c.self.inside.rows.entries c.args.customer) ∙ ap (λ (m : RowMap). map.get m c.args.customer) c.self.view_is
