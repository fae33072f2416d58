use Rattle.std.proofs.Common.{◌≡◌, Ok, Err, refl, sym, ap, subst, arith, rules}
use Rattle.std.specs.Io.KnownBytes.{append_known}
use Rattle.script_lines.specs.declared.commands.Command.TheVariants.{Idle}
use Rattle.script_lines.specs.declared.fault.LineFault.TheVariants.{NoMemory}
use Rattle.script_lines.proofs.LawLemmas.{some_reading}
use Rattle.av_base.specs.declared.stop.Stop.TheVariants as stops
use Rattle.aspa_top.specs.Bounds.{IsWithinTask}
use Rattle.aspa_top.specs.Evaluation.{asked_of}
use Rattle.aspa_top.specs.Working.{counted_in}
use Rattle.aspa_top.proofs.DidLemmas.{did_err, nothing}
use Rattle.aspa_top.proofs.KeepLemmas.{keeps_all}
use Rattle.aspa_top.proofs.PerformingLemmas.{IsWithinBounds-IsReading, line_refused}
use Rattle.aspa_top.proofs.ReadyLemmas.{begun}
use Rattle.aspa_top.proofs.MemoryLemmas.{idle}
use Rattle.aspa_top.proofs.line.perform_line.Goals as goal

pub perform_due-requires-clause-within : goal.perform_due-requires-clause-within
perform_due-requires-clause-within g c = subst IsWithinTask (sym c.task_of.ensures) (IsWithinBounds-IsReading c.args.line.now c.in-Ok.command (c.in-Ok.ensures (λ none. cc)))

pub perform_due-requires-clause-begun : goal.perform_due-requires-clause-begun
perform_due-requires-clause-begun g c = begun _ c.args.working c.requires.room c.requires.ready

-- a line without a command
pub returns-in-Ok-Idle : goal.returns-in-Ok-Idle
returns-in-Ok-Idle g c = record {
  keeps = record { lent = refl; keeps = keeps_all _ _ _ };
  did = record {
    reading = Ok Idle;
    reads = rw c.in-Ok-Idle.field-0-is at (c.in-Ok-Idle.ensures (λ none. cc));
    did = idle (counted_in c.args.working) _ (begun _ c.args.working c.requires.room c.requires.ready);
  };
}

pub returns-in-Ok : goal.returns-in-Ok
returns-in-Ok g c = record {
  keeps = c.perform_due.ensures.keeps;
  did = record { reading = Ok c.in-Ok.command; reads = c.in-Ok.ensures (λ none. cc); did = rw c.task_of.ensures at c.perform_due.ensures.did };
}

-- a line that isn't read so
pub returns-in_ok-refuse-in-Err : goal.returns-in_ok-refuse-in-Err
returns-in_ok-refuse-in-Err g c =
    let other : c.in-Err.fault ≡ NoMemory → ⊥ = search rules in
    record {
      keeps = record { lent = refl; keeps = keeps_all _ _ _ };
      did = record {
        reading = Err c.in-Err.fault;
        reads = c.in-Err.ensures (λ none. other cc);
        did = line_refused (counted_in c.args.working) c.in_ok-refuse-in-Err.field-0 c.in-Err.fault c.in_ok-cause-in-Err.cause _ _ (begun _ c.args.working c.requires.room c.requires.ready)
            c.in_ok-cause-in-Err.ensures c.in_ok-refuse-in-Err.ensures.text c.in_ok-refuse-in-Err.ensures.next;
      };
    }

-- memory ran out
pub returns-in_err-cause-in-Err : goal.returns-in_err-cause-in-Err
returns-in_err-cause-in-Err g c =
    let read = some_reading c.args.line.now in
    record {
      keeps = record { lent = refl; keeps = keeps_all _ _ _ };
      did = record {
        reading = read.0;
        reads = read.1;
        did = did_err (counted_in c.args.working) (asked_of read.0) _ _ c.from_residual.result stops.NoMemory c.from_residual.ensures.1
            (nothing (counted_in c.args.working) (asked_of read.0) _ _ refl refl refl (omega arith));
      };
    }

pub returns-in_err-refuse-in-Err : goal.returns-in_err-refuse-in-Err
returns-in_err-refuse-in-Err g c =
    let read = some_reading c.args.line.now in
    record {
      keeps = record { lent = refl; keeps = keeps_all _ _ _ };
      did = record {
        reading = read.0;
        reads = read.1;
        did = did_err (counted_in c.args.working) (asked_of read.0) _ _ c.from_residual-in_err-refuse-in-Err.result stops.NoMemory c.from_residual-in_err-refuse-in-Err.ensures.1
            (nothing (counted_in c.args.working) (asked_of read.0) _ _ refl (ap (append_known (g.W.Sink.written c.args.outside.now.out.now)) c.in_err-refuse-in-Err.ensures.err) refl (omega arith));
      };
    }
