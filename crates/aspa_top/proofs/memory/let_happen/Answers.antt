use Rattle.std.proofs.Common.{refl}
use Rattle.av_base.specs.declared.stop.Stop.TheVariants as stops
use Rattle.aspa_top.proofs.DidLemmas.{did_err}
use Rattle.aspa_top.proofs.KeepLemmas.{keeps_all}
use Rattle.aspa_top.proofs.MemoryLemmas.{event_stopped, happened}
use Rattle.aspa_top.proofs.memory.let_happen.Goals as goal

pub returns : goal.returns
returns g c = record {
  keeps = record { lent = refl; keeps = keeps_all _ _ _ };
  did = happened c.args.working _ c.requires.begun c.args.event _ _ c.in_ok-next.ensures.happened c.happen.ensures.ticks;
}

pub returns-in_err-next : goal.returns-in_err-next
returns-in_err-next g c = record {
  keeps = record { lent = refl; keeps = keeps_all _ _ _ };
  did = did_err c.args.working _ _ _ c.from_residual.result stops.NoMemory c.from_residual.ensures.1 (event_stopped c.args.working _ c.requires.begun c.args.event _ c.happen.ensures.ticks);
}
