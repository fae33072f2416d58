use Rattle.std.proofs.Common.{ap, ◌∙◌}
use Rattle.std.specs.FinMap as map
use Rattle.path_model.specs.Rows.{RowMap}
use Rattle.path_model.proofs.MapLemmas.{row_inserted}
use Rattle.path_model.proofs.gathered.Gathered.begin.Goals as goal

pub returns-clause-ok : goal.returns-clause-ok
returns-clause-ok c =
    row_inserted c.self.inside.lists.entries c.insert.new.self.entries c.args.customer c.in_ok-list.list c.in_ok-insert.ensures.updates.0
    ∙ ap (λ (m : RowMap). map.insert m c.args.customer c.in_ok-list.list) c.self.view_is
    ∙ ap (map.insert c.args.self.now c.args.customer) c.in_ok-list.ensures
