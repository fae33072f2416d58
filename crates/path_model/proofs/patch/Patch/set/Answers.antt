use Rattle.std.proofs.Common.{ap, sym, ◌∙◌, subst}
use Rattle.std.specs.FinMap as map
use Rattle.path_model.specs.Rows.{PatchMap, PatchHasSets}
use Rattle.path_model.proofs.MapLemmas.{row_inserted}
use Rattle.path_model.proofs.RowLemmas.{patch_inserted}
use Rattle.path_model.proofs.patch.Patch.set.Goals as goal

pub invariant_of-self-2 : goal.invariant_of-self-2
invariant_of-self-2 c =
    subst (λ (m : PatchMap). PatchHasSets m) (sym (row_inserted c.self.inside.rows.entries c.insert.new.self.entries c.args.customer c.row_as_set-row.result c.in_ok-insert.ensures.updates.0))
    (patch_inserted (map.from_entries c.self.inside.rows.entries) c.args.customer c.args.row c.row_as_set-row.result c.self.invariant c.row_as_set-row.ensures)

pub returns-clause-ok : goal.returns-clause-ok
returns-clause-ok c = record {
  row = c.row_as_set-row.result;
  is_row = c.row_as_set-row.ensures;
  whole = row_inserted c.self.inside.rows.entries c.insert.new.self.entries c.args.customer c.row_as_set-row.result c.in_ok-insert.ensures.updates.0
      ∙ ap (λ (m : PatchMap). map.insert m c.args.customer c.row_as_set-row.result) c.self.view_is;
}
