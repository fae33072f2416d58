use Rattle.std.proofs.Common.{ℕ, List, ◌++◌, ap, refl, ◌∙◌}
use Rattle.rib_store.specs.State.{State as Analysis}
use Rattle.av_base.specs.declared.stop.Stop.TheVariants as stops
use Rattle.aspa_top.proofs.DidLemmas.{did_err}
use Rattle.aspa_top.proofs.KeepLemmas.{keeps_all}
use Rattle.aspa_top.proofs.MemoryLemmas.{judge_stopped, judged}
use Rattle.aspa_top.proofs.memory.judge_path.Goals as goal

pub returns : goal.returns
returns g c = record {
  keeps = record { lent = refl; keeps = keeps_all _ _ _ };
  did = judged c.args.working _ c.requires.begun c.args.role c.args.neighbour c.args.path.now _ c.in_ok-line.line.items _ _ (c.table-table.ensures ∙ ap (λ (a : Analysis). a.parts) c.store.ensures)
      c.in_ok-line.ensures.judged (c.in_ok-put_line.ensures.ok ∙ ap (λ (t : List ℕ). c.args.outside.now.text.now.items ++ t) c.as_slice.ensures.value) c.in_ok-line.ensures.ticked;
}

pub returns-in_err-line : goal.returns-in_err-line
returns-in_err-line g c = record {
  keeps = record { lent = refl; keeps = keeps_all _ _ _ };
  did = did_err c.args.working _ _ _ c.from_residual.result stops.NoMemory c.from_residual.ensures.1
      (judge_stopped c.args.working _ c.requires.begun c.args.role c.args.neighbour c.args.path.now _ _ refl c.judge.ensures.ticks);
}

pub returns-in_err-put_line : goal.returns-in_err-put_line
returns-in_err-put_line g c = record {
  keeps = record { lent = refl; keeps = keeps_all _ _ _ };
  did = did_err c.args.working _ _ _ c.from_residual-in_err-put_line.result stops.NoMemory c.from_residual-in_err-put_line.ensures.1
      (judge_stopped c.args.working _ c.requires.begun c.args.role c.args.neighbour c.args.path.now _ _ c.in_err-put_line.ensures.err c.judge.ensures.ticks);
}
