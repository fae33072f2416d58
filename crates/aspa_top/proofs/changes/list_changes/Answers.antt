use Rattle.std.proofs.Common.{◌≡◌, Err, refl, ap, subst, ◌∙◌, arith}
use Rattle.av_base.specs.declared.stop.Stop.TheVariants as stops
use Rattle.aspa_top.specs.declared.working.Working.{Working}
use Rattle.aspa_top.specs.Working.{Marked}
use Rattle.aspa_top.proofs.DidLemmas.{did_err, nothing}
use Rattle.aspa_top.proofs.KeepLemmas.{keeps_all, keeps_sink}
use Rattle.aspa_top.proofs.ChangesLemmas.{listed, list_stopped}
use Rattle.aspa_top.proofs.changes.list_changes.Goals as goal

-- what changed couldn't be gathered
pub returns-in_err-working : goal.returns-in_err-working
returns-in_err-working g c = record {
  keeps = record { lent = refl; keeps = keeps_all _ _ _ };
  did = did_err c.args.working _ _ _ c.from_residual.result stops.NoMemory c.from_residual.ensures.1 (nothing c.args.working _ _ _ refl refl refl (omega arith));
}

-- some of it was listed
pub returns-in_err-put_changes : goal.returns-in_err-put_changes
returns-in_err-put_changes g c =
    let is : c.in_ok-working.working ≡ c.args.working = c.in_ok-working.ensures in
    let rows = c.in_err-put_changes.ensures in
    let stopped = rows.listed in
    record {
      keeps = record { lent = refl; keeps = keeps_sink _ _ _ _ _ c.put_changes.ensures.listed.grows c.put_changes.ensures.listed.sink_faults };
      did = did_err c.args.working _ _ _ c.from_residual-in_err-put_changes.result _ c.from_residual-in_err-put_changes.ensures.1
          (list_stopped c.args.working _ _ _ _ _ (c.store.ensures ∙ ap (λ (w : Working). w.progress.analyser) is) c.in_err-put_changes.field-0.0 rows.rows rows.are rows.listed.front
          (λ same. stopped.no_shelf (ap Err same)) (λ same. stopped.held (ap Err same)) (λ same. stopped.sink_cause (ap Err same)));
    }

-- all of it was
pub returns : goal.returns
returns g c =
    let is : c.in_ok-working.working ≡ c.args.working = c.in_ok-working.ensures in
    record {
      keeps = record { lent = refl; keeps = keeps_sink _ _ _ _ _ c.put_changes.ensures.listed.grows c.put_changes.ensures.listed.sink_faults };
      did = listed c.args.working _ _ _ _ _ (c.store.ensures ∙ ap (λ (w : Working). w.progress.analyser) is) c.mark.result c.in_ok-put_changes.ensures.rows c.requires.begun c.in_ok-put_changes.ensures.are c.in_ok-put_changes.ensures.listed.whole
          (subst (λ (w : Working). Marked w c.mark.result) is c.mark.ensures);
    }
