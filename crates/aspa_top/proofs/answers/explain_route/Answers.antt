use Rattle.std.proofs.Common.{Err, refl, ap, arith}
use Rattle.std.specs.Io.KnownBytes.{append_known}
use Rattle.report_text.specs.declared.cause.Cause.TheVariants as causes
use Rattle.av_base.specs.declared.stop.Stop.TheVariants as stops
use Rattle.aspa_top.specs.declared.task.Question.TheVariants.{Explain}
use Rattle.aspa_top.proofs.AnswerLemmas.{answer_stopped, answered, explain_answers, explain_refused, not_answered}
use Rattle.aspa_top.proofs.DidLemmas.{did_err, nothing}
use Rattle.aspa_top.proofs.KeepLemmas.{keeps_all, keeps_sink}
use Rattle.aspa_top.proofs.answers.explain_route.Goals as goal

pub returns : goal.returns
returns g c =
    let shown = c.in-Some.ensures.some in
    record {
      keeps = record { lent = refl; keeps = keeps_sink _ _ _ _ _ c.put_explained.ensures.grows c.put_explained.ensures.sink_faults };
      did = answered c.args.working (Explain c.args.key.now) _ _ _ _ _ c.requires.begun
          (explain_answers c.args.working _ c.store-store.ensures c.table-table.result.now c.table-table.ensures c.args.key.now c.in-Some.shown.trail.now c.in-Some.shown.verdict c.in-Some.shown.witness shown.route shown.explained)
          c.in_ok-put_explained.ensures.whole;
    }

pub returns-in_err-put_explained : goal.returns-in_err-put_explained
returns-in_err-put_explained g c =
    let shown = c.in-Some.ensures.some in
    let listed = c.in_err-put_explained.ensures in
    record {
      keeps = record { lent = refl; keeps = keeps_sink _ _ _ _ _ c.put_explained.ensures.grows c.put_explained.ensures.sink_faults };
      did = did_err c.args.working _ _ _ c.from_residual-in_err-put_explained.result _ c.from_residual-in_err-put_explained.ensures.1
          (answer_stopped c.args.working (Explain c.args.key.now) _ _ _ _ _ c.requires.begun
          (explain_answers c.args.working _ c.store-store.ensures c.table-table.result.now c.table-table.ensures c.args.key.now c.in-Some.shown.trail.now c.in-Some.shown.verdict c.in-Some.shown.witness shown.route shown.explained)
          _ listed.front (λ same. listed.no_shelf (ap Err same)) (λ same. listed.held (ap Err same)) (λ same. listed.sink_cause (ap Err same)));
    }

pub returns-in_default : goal.returns-in_default
returns-in_default g c = record {
  keeps = record { lent = refl; keeps = keeps_all _ _ _ };
  did = not_answered c.args.working _ (Explain c.args.key.now) causes.NoRoute _ _ c.requires.begun (explain_refused c.args.working _ c.store-store.ensures c.args.key.now c.in_default.ensures.none)
      c.in_ok-refuse.ensures.text c.in_ok-refuse.ensures.next;
}

pub returns-in_err-refuse : goal.returns-in_err-refuse
returns-in_err-refuse g c = record {
  keeps = record { lent = refl; keeps = keeps_all _ _ _ };
  did = did_err c.args.working _ _ _ c.from_residual.result stops.NoMemory c.from_residual.ensures.1
      (nothing c.args.working _ _ _ refl (ap (append_known (g.W.Sink.written c.args.outside.now.out.now)) c.in_err-refuse.ensures.err) refl (omega arith));
}
