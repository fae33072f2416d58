use Rattle.std.proofs.Common.{refl, ap, arith}
use Rattle.analyser.specs.declared.progress.Progress.{Progress}
use Rattle.av_base.specs.declared.stop.Stop.TheVariants as stops
use Rattle.aspa_top.proofs.DidLemmas.{did_err}
use Rattle.aspa_top.proofs.FeedLemmas.{work_stopped, worked}
use Rattle.aspa_top.proofs.KeepLemmas.{keeps_links}
use Rattle.aspa_top.proofs.ReadyLemmas.{few_taken, sound_weaker}
use Rattle.aspa_top.proofs.ReportingLemmas.{told_adds}
use Rattle.aspa_top.proofs.feeds.work_on.Goals as goal

pub work-requires-clause-sound : goal.work-requires-clause-sound
work-requires-clause-sound g c = few_taken _ c.args.working c.requires.begun

pub returns : goal.returns
returns g c =
    let goes = c.in_ok-work.ensures.goes in
    let told = c.in_ok-work.ensures.tells in
    record {
      keeps = record { lent = refl; keeps = keeps_links _ _ _ _ _ _ (record { attempts = goes.attempts; wire = goes.links }) c.work.ensures.broke };
      did = worked c.args.working c.args.name.now _ _ _ _ _ _ _ c.requires.begun refl c.args.asked _ _ _ goes refl (ap (λ (p : Progress). p.marks) c.work.ensures.stays) (ap (λ (p : Progress). p.passed) c.work.ensures.stays) c.in_ok-work.ensures.few
          (sound_weaker _ _ _ _ (omega (arith, c.requires.begun.counted, c.requires.within)) (c.in_ok-work.ensures.sound _ c.requires.begun.feeds))
          (told_adds _ c.args.name.now _ _ told.0 _ _ c.text-name.ensures.is_name c.work.ensures.broke.later (λ same. absurd (told.2 same)) told.1);
    }

pub returns-in_err-work : goal.returns-in_err-work
returns-in_err-work g c =
    let goes = c.in_err-work.ensures.part in
    record {
      keeps = record { lent = refl; keeps = keeps_links _ _ _ _ _ _ (record { attempts = goes.attempts; wire = goes.links }) c.work.ensures.broke };
      did = did_err c.args.working _ _ _ c.from_residual.result stops.NoMemory c.from_residual.ensures.1
          (work_stopped c.args.working c.args.name.now _ _ _ _ _ _ _ c.requires.begun refl c.args.asked goes c.in_err-work.ensures.err c.work.ensures.broke.later);
    }
