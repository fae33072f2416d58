use Rattle.std.proofs.Common.{false, refl, ap, ◌∙◌, arith}
use Rattle.path_model.specs.Trail.{path_of}
use Rattle.attestations.specs.ComputedTable.{table_of}
use Rattle.rib_store.specs.State.{State as Analysis}
use Rattle.av_base.specs.declared.stop.Stop.TheVariants as stops
use Rattle.aspa_top.specs.declared.task.Task.TheVariants.{Explain}
use Rattle.aspa_top.proofs.DidLemmas.{did_err, nothing}
use Rattle.aspa_top.proofs.JudgedListLemmas.{explains_path, judged_done, judged_err}
use Rattle.aspa_top.proofs.KeepLemmas.{keeps_all, keeps_sink}
use Rattle.aspa_top.proofs.QuestionLemmas.{explanation_lines}
use Rattle.aspa_top.proofs.judged.explain_path.Goals as goal

pub returns : goal.returns
returns g c =
    let step = c.judge-judged.ensures.one_step in
    let parts = c.table-table.ensures ∙ ap (λ (a : Analysis). a.parts) c.store.ensures in
    let same = c.in_ok-trail.ensures ∙ ap (path_of false) c.as_slice.ensures in
    record {
      keeps = record { lent = refl; keeps = keeps_sink _ _ _ _ _ c.put_explained.ensures.grows c.put_explained.ensures.sink_faults };
      did = judged_done c.args.working (Explain c.args.role c.args.neighbour c.args.path.now) _ _ _ 1 _ c.requires.begun
          (explains_path c.args.working c.args.role c.args.neighbour c.args.path.now c.table-table.result.now c.in_ok-trail.trail c.verdict.result c.witness.result parts same (rw (c.verdict.ensures, c.witness.ensures) c.judge-judged.ensures.printed))
          (explanation_lines (table_of c.table-table.result.now) c.in_ok-trail.trail c.verdict.result c.witness.result) (omega (arith, step)) (λ world state part n. tt) _ c.in_ok-put_explained.ensures;
    }

pub returns-in_err-trail : goal.returns-in_err-trail
returns-in_err-trail g c = record {
  keeps = record { lent = refl; keeps = keeps_all _ _ _ };
  did = did_err c.args.working _ _ _ c.from_residual.result stops.NoMemory c.from_residual.ensures.1 (nothing c.args.working _ _ _ refl refl refl (omega arith));
}

pub returns-in_err-put_explained : goal.returns-in_err-put_explained
returns-in_err-put_explained g c =
    let step = c.judge-judged.ensures.one_step in
    let parts = c.table-table.ensures ∙ ap (λ (a : Analysis). a.parts) c.store.ensures in
    let same = c.in_ok-trail.ensures ∙ ap (path_of false) c.as_slice.ensures in
    record {
      keeps = record { lent = refl; keeps = keeps_sink _ _ _ _ _ c.put_explained.ensures.grows c.put_explained.ensures.sink_faults };
      did = judged_err c.args.working (Explain c.args.role c.args.neighbour c.args.path.now) _ _ _ 1 _ c.requires.begun
          (explains_path c.args.working c.args.role c.args.neighbour c.args.path.now c.table-table.result.now c.in_ok-trail.trail c.verdict.result c.witness.result parts same (rw (c.verdict.ensures, c.witness.ensures) c.judge-judged.ensures.printed))
          (explanation_lines (table_of c.table-table.result.now) c.in_ok-trail.trail c.verdict.result c.witness.result) (omega (arith, step)) (λ world state part n. tt) _ c.in_err-put_explained.ensures c.from_residual-in_err-put_explained.result
          c.from_residual-in_err-put_explained.ensures.1;
    }
