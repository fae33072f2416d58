use Rattle.std.proofs.Common.{refl}
use Rattle.av_base.specs.declared.stop.Stop.TheVariants as stops
use Rattle.aspa_top.proofs.DidLemmas.{did_err}
use Rattle.aspa_top.proofs.KeepLemmas.{keeps_all}
use Rattle.aspa_top.proofs.MemoryLemmas.{clear_stopped, cleared}
use Rattle.aspa_top.proofs.memory.clear_routes.Goals as goal

pub returns : goal.returns
returns g c = record {
  keeps = record { lent = refl; keeps = keeps_all _ _ _ };
  did = cleared c.args.working _ c.requires.begun _ _ c.in_ok-next.ensures.cleared c.clear.ensures.ticks;
}

pub returns-in_err-next : goal.returns-in_err-next
returns-in_err-next g c = record {
  keeps = record { lent = refl; keeps = keeps_all _ _ _ };
  did = did_err c.args.working _ _ _ c.from_residual.result stops.NoMemory c.from_residual.ensures.1 (clear_stopped c.args.working _ c.requires.begun _ c.clear.ensures.ticks);
}
