use Rattle.std.proofs.Common.{ap, sym, ◌∙◌, subst}
use Rattle.std.specs.FinMap as map
use Rattle.path_model.specs.Rows.{RowMap, HaveSets}
use Rattle.path_model.proofs.MapLemmas.{row_removed}
use Rattle.path_model.proofs.RowLemmas.{sets_removed}
use Rattle.path_model.proofs.rows.Rows.remove.Goals as goal

pub invariant_of-self : goal.invariant_of-self
invariant_of-self c =
    subst (λ (m : RowMap). HaveSets m) (sym (row_removed c.self.inside.rows.entries c.remove.new.self.entries c.args.customer c.remove.ensures.updates.0))
    (sets_removed (map.from_entries c.self.inside.rows.entries) c.args.customer c.self.invariant)

pub returns : goal.returns
returns c =
    row_removed c.self.inside.rows.entries c.remove.new.self.entries c.args.customer c.remove.ensures.updates.0
    ∙ ap (λ (m : RowMap). map.remove m c.args.customer) c.self.view_is
