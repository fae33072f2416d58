use Rattle.std.proofs.Common.{refl}
use Rattle.av_base.specs.declared.stop.Stop.TheVariants as stops
use Rattle.aspa_top.proofs.DidLemmas.{did_err, did_poured, pour_stopped}
use Rattle.aspa_top.proofs.KeepLemmas.{keeps_sink}
use Rattle.aspa_top.proofs.PassedLemmas.{KeepsAll-trans}
use Rattle.aspa_top.proofs.line.perform_due.Goals as goal

-- what is held was written first
pub returns : goal.returns
returns g c = record {
  keeps = KeepsAll-trans (record { lent = refl; keeps = keeps_sink _ _ _ _ _ c.pour_due.ensures.grows c.pour_due.ensures.cause.later }) c.perform_task.ensures.keeps;
  did = did_poured c.args.working _ _ _ _ _ c.pour_due.ensures.same c.pour_due.ensures.cause.later _ _ c.perform_task.ensures.did;
}

pub returns-in_err-pour_due : goal.returns-in_err-pour_due
returns-in_err-pour_due g c = record {
  keeps = record { lent = refl; keeps = keeps_sink _ _ _ _ _ c.pour_due.ensures.grows c.pour_due.ensures.cause.later };
  did = did_err c.args.working _ _ _ c.from_residual.result stops.Sink c.from_residual.ensures.1
      (pour_stopped c.args.working _ _ _ _ _ c.pour_due.ensures.same c.pour_due.ensures.cause.later c.in_err-pour_due.ensures.err c.in_err-pour_due.ensures.cause.failed);
}
