use Rattle.std.proofs.Common.{ap, sym, ◌∙◌, subst}
use Rattle.std.specs.FinMap as map
use Rattle.path_model.specs.Rows.{RowMap, HaveSets}
use Rattle.path_model.proofs.MapLemmas.{row_inserted}
use Rattle.path_model.proofs.RowLemmas.{sets_inserted}
use Rattle.path_model.proofs.rows.Rows.set.Goals as goal

pub invariant_of-self-2 : goal.invariant_of-self-2
invariant_of-self-2 c =
    subst (λ (m : RowMap). HaveSets m) (sym (row_inserted c.self.inside.rows.entries c.insert.new.self.entries c.args.customer c.into_set-row.result c.in_ok-insert.ensures.updates.0))
    (sets_inserted (map.from_entries c.self.inside.rows.entries) c.args.customer c.into_set-row.result c.self.invariant c.into_set-row.ensures.ascending)

pub returns-clause-ok : goal.returns-clause-ok
returns-clause-ok c = record {
  row = c.into_set-row.result;
  is_set = c.into_set-row.ensures;
  whole = row_inserted c.self.inside.rows.entries c.insert.new.self.entries c.args.customer c.into_set-row.result c.in_ok-insert.ensures.updates.0
      ∙ ap (λ (m : RowMap). map.insert m c.args.customer c.into_set-row.result) c.self.view_is;
}
