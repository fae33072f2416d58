use Rattle.std.proofs.Common.{refl, ap, arith}
use Rattle.std.specs.Io.KnownBytes.{append_known}
use Rattle.report_text.specs.declared.cause.Cause.TheVariants as causes
use Rattle.av_base.specs.declared.stop.Stop.TheVariants as stops
use Rattle.aspa_top.specs.declared.task.Question.TheVariants.{Why}
use Rattle.aspa_top.proofs.AnswerLemmas.{answered, not_answered, why_answers, why_refused}
use Rattle.aspa_top.proofs.DidLemmas.{did_err, nothing}
use Rattle.aspa_top.proofs.KeepLemmas.{keeps_all}
use Rattle.aspa_top.proofs.StandsLemmas.{added_text}
use Rattle.aspa_top.proofs.answers.show_reason.Goals as goal

pub returns : goal.returns
returns g c =
    let shown = c.in-Some.ensures.some in
    record {
      keeps = record { lent = refl; keeps = keeps_all _ _ _ };
      did = answered c.args.working (Why c.args.key.now) _ _ _ _ _ c.requires.begun
          (why_answers c.args.working _ c.store.ensures c.args.key.now _ c.in-Some.shown.verdict c.in-Some.shown.witness shown.route shown.explained) (added_text _ _ _ _ c.in_ok-put_why.ensures.ok);
    }

pub returns-in_err-put_why : goal.returns-in_err-put_why
returns-in_err-put_why g c = record {
  keeps = record { lent = refl; keeps = keeps_all _ _ _ };
  did = did_err c.args.working _ _ _ c.from_residual-in_err-put_why.result stops.NoMemory c.from_residual-in_err-put_why.ensures.1
      (nothing c.args.working _ _ _ refl (ap (append_known (g.W.Sink.written c.args.outside.now.out.now)) c.in_err-put_why.ensures.err) refl (omega arith));
}

pub returns-in_default : goal.returns-in_default
returns-in_default g c = record {
  keeps = record { lent = refl; keeps = keeps_all _ _ _ };
  did = not_answered c.args.working _ (Why c.args.key.now) causes.NoRoute _ _ c.requires.begun (why_refused c.args.working _ c.store.ensures c.args.key.now c.in_default.ensures.none)
      c.in_ok-refuse.ensures.text c.in_ok-refuse.ensures.next;
}

pub returns-in_err-refuse : goal.returns-in_err-refuse
returns-in_err-refuse g c = record {
  keeps = record { lent = refl; keeps = keeps_all _ _ _ };
  did = did_err c.args.working _ _ _ c.from_residual.result stops.NoMemory c.from_residual.ensures.1
      (nothing c.args.working _ _ _ refl (ap (append_known (g.W.Sink.written c.args.outside.now.out.now)) c.in_err-refuse.ensures.err) refl (omega arith));
}
