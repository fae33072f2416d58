use Rattle.std.proofs.Common.{Err, refl, ap, arith}
use Rattle.std.specs.Io.KnownBytes.{append_known}
use Rattle.report_text.specs.declared.cause.Cause.TheVariants as causes
use Rattle.report_text.specs.Refusals.{of_line}
use Rattle.stream_lines.proofs.FrameLemmas.{Leaves-refl}
use Rattle.av_base.specs.declared.stop.Stop.TheVariants as stops
use Rattle.aspa_top.proofs.DidLemmas.{did_err, nothing}
use Rattle.aspa_top.proofs.KeepLemmas.{keeps_all, keeps_shelf}
use Rattle.aspa_top.proofs.TableLemmas.{act_stopped, load_acted, load_failed, load_refused}
use Rattle.aspa_top.proofs.tables.load.Goals as goal

-- the name is taken
pub returns-then-is_taken : goal.returns-then-is_taken
returns-then-is_taken g c = record {
  keeps = record { lent = refl; keeps = keeps_all _ _ _ };
  did = load_refused c.args.working c.args.kind c.args.file.now _ _ _ _ _ _ c.requires.begun (Leaves-refl (λ other. Unit {0}) _) (λ n d e. tt) (omega arith)
      _ _ of_line causes.NameTaken tt (rw c.if-is_taken.true at c.is_taken.ensures) (λ world state text after tells refuses. refuses) c.in_ok-refuse.ensures.text refl c.in_ok-refuse.ensures.next;
}

pub returns-in_err-refuse : goal.returns-in_err-refuse
returns-in_err-refuse g c = record {
  keeps = record { lent = refl; keeps = keeps_all _ _ _ };
  did = did_err c.args.working _ _ _ c.from_residual.result stops.NoMemory c.from_residual.ensures.1
      (nothing c.args.working _ _ _ refl (ap (append_known (g.W.Sink.written c.args.outside.now.out.now)) c.in_err-refuse.ensures.err) refl (omega arith));
}

-- the file wasn't read
pub returns-in_err-outcome : goal.returns-in_err-outcome
returns-in_err-outcome g c = record {
  keeps = record { lent = refl; keeps = keeps_shelf _ _ _ _ _ _ c.load_file.ensures.others.names c.load_file.ensures.faults };
  did = did_err c.args.working _ _ _ c.from_residual-in_err-outcome.result _ c.from_residual-in_err-outcome.ensures.1
      (load_failed c.args.working c.args.kind c.args.file.now _ _ _ _ c.in_err-outcome.field-0.0 (λ same. c.in_err-outcome.ensures.cause (ap Err same)));
}

-- it was, and came to something
pub returns-in_err-act_on : goal.returns-in_err-act_on
returns-in_err-act_on g c = record {
  keeps = record { lent = refl; keeps = keeps_shelf _ _ _ _ _ _ c.load_file.ensures.others.names c.load_file.ensures.faults };
  did = did_err c.args.working _ _ _ c.from_residual-in_err-act_on.result stops.NoMemory c.from_residual-in_err-act_on.ensures.1
      (act_stopped c.args.working c.args.kind c.args.file.now _ _ _ _ _ _ c.requires.begun c.load_file.ensures.others (λ n d e. (c.requires.begun.sound.given n d e).0) c.load_file.ensures.opened
      c.in_ok-outcome.outcome _ (rw c.if-is_taken.false at c.is_taken.ensures) c.text.ensures.text c.in_ok-outcome.ensures.comes c.act_on.ensures.ticks c.in_err-act_on.ensures.err);
}

pub returns : goal.returns
returns g c = record {
  keeps = record { lent = refl; keeps = keeps_shelf _ _ _ _ _ _ c.load_file.ensures.others.names c.load_file.ensures.faults };
  did = load_acted c.args.working c.args.kind c.args.file.now _ _ _ _ _ _ c.requires.begun c.load_file.ensures.others (λ n d e. (c.requires.begun.sound.given n d e).0) c.load_file.ensures.opened
      _ c.in_ok-outcome.outcome _ c.unit_name-name.ensures.in_line (rw c.if-is_taken.false at c.is_taken.ensures) c.text.ensures.text c.in_ok-outcome.ensures.comes c.in_ok-act_on.ensures.acted c.act_on.ensures.ticks;
}
