use Rattle.std.proofs.Common.{List, ap, ◌∙◌, arith}
use Rattle.path_model.specs.declared.verdict.Verdict.{Verdict}
use Rattle.std.specs.declared.option.Option.{Option}
use Rattle.listings.specs.EachSent.{verdict_at}
use Rattle.listings.proofs.SentStepLemmas.{padded, resized}
use Rattle.listings.proofs.sent_verdicts.make_room.Goals.{then-number-len+in_ok-resize, else-number-len}
use Rattle.listings.proofs.sent_verdicts.make_room.Goals as goal

pub returns-in_ok-push-clause-same : goal.returns-in_ok-push-clause-same
returns-in_ok-push-clause-same c n =
    ap (λ (vs : List (Option Verdict)). verdict_at vs n) c.in_ok-push.ensures.items ∙ padded c.if-number-len.verdicts.items n
    ∙ elim c.if-number-len.branch [
      | then-number-len+in_ok-resize w ↦ ap (λ v. verdict_at v.items n) w.verdicts-is
          ∙ resized c.args.verdicts.now.items w.resize.new.self.items c.args.number _ n w.in_ok-resize.ensures.items (omega (arith, w.if-number-len.true, c.len.ensures))
      | else-number-len w ↦ ap (λ v. verdict_at v.items n) w.verdicts-is
    ]
