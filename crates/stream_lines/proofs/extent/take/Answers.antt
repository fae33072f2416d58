use Rattle.std.proofs.Common.{◌≡◌, ◌≢◌, ℕ, ◌+◌, ap, refl, sym, ◌∙◌, arith, subst}
use Rattle.std.specs.Io.KnownBytes.{append_known}
use Rattle.av_base.proofs.PouringLemmas.{Grows-refl, Grows-trans}
use Rattle.report_text.proofs.ReportedLemmas.{adds_quiet_none}
use Rattle.stream_lines.specs.Frames.{Leaves}
use Rattle.stream_lines.specs.Taking.{asking_of}
use Rattle.stream_lines.proofs.ExtentLemmas.{took_of, some_of, ticks_of}
use Rattle.stream_lines.proofs.FrameLemmas.{Leaves-refl, Leaves-trans}
use Rattle.stream_lines.proofs.HoldingLemmas.{LetsGo-next, LetsGo-same}
use Rattle.stream_lines.proofs.JudgementLemmas.{ticks_start, ticks_next}
use Rattle.stream_lines.proofs.ReportedLemmas.{units_reported}
use Rattle.stream_lines.proofs.TakingUntilLemmas.{WentOn-start, TookUnits-moved, TookUpTo-all, TookUpTo-some, moved_open, moved_taken, peeked, stops_over, stops_past, ticks_until}
use Rattle.stream_lines.proofs.UnitsLemmas.{TookUnits-start, TookUnits-next}
use Rattle.stream_lines.proofs.extent.take.Goals as goal

pub loop-turn-init : goal.loop-turn-init
loop-turn-init g c = record {
  took = TookUnits-start _ _ _ _ _;
  went = WentOn-start _ _ _ _ _;
  within = omega arith;
  file = refl;
  lets_go = LetsGo-same _ _;
  few = record { taken = omega arith; passed = omega arith; refused = omega arith; origins = refl };
  ticks = ticks_start _ _ _ _ _;
  others = Leaves-refl _ _;
  opened = refl;
  shelf_faults = omega arith;
  grows = Grows-refl _;
  sink_faults = omega arith;
  reports = λ in_line. adds_quiet_none _;
}

-- ---- the dump is over

pub returns-then-is_over-clause-took : goal.returns-then-is_over-clause-took
returns-then-is_over-clause-took g c =
    took_of (asking_of c.args.asked) c.args.asked.until c.args.asked.count _ _ _ _ _ _ _ _
    (TookUpTo-all _ _ _ _ _ _ _ _ _ _ _ c.loop-turn.invariant.took c.loop-turn.invariant.went _ c.loop-turn.invariant.within (λ below. stops_over _ _ _ (sym c.is_over.ensures ∙ c.if-is_over.true)))

pub returns-then-is_over-clause-some : goal.returns-then-is_over-clause-some
returns-then-is_over-clause-some g c =
    some_of (asking_of c.args.asked) c.args.asked.until c.args.asked.count _ _ _ _ _ _ _
    (TookUpTo-some _ _ _ _ _ _ _ _ _ _ _ c.loop-turn.invariant.took c.loop-turn.invariant.went _ _ _ _ _ (omega arith) (omega arith) c.loop-turn.invariant.within c.loop-turn.invariant.went refl c.loop-turn.invariant.ticks)

pub returns-then-is_over-clause-ticks : goal.returns-then-is_over-clause-ticks
returns-then-is_over-clause-ticks g c =
    ticks_of (asking_of c.args.asked) c.args.asked.until c.args.asked.count _ _ _ _ _
    (ticks_until _ _ _ _ _ _ _ _ _ c.loop-turn.invariant.within c.loop-turn.invariant.went c.loop-turn.invariant.ticks)

pub returns-then-is_over-clause-reports : goal.returns-then-is_over-clause-reports
returns-then-is_over-clause-reports g c = c.loop-turn.invariant.reports

pub returns-then-is_over-clause-lets_go : goal.returns-then-is_over-clause-lets_go
returns-then-is_over-clause-lets_go g c = c.loop-turn.invariant.lets_go

-- ---- so many were to be taken

pub returns-clause-took : goal.returns-clause-took
returns-clause-took g c =
    took_of (asking_of c.args.asked) c.args.asked.until c.args.asked.count _ _ _ _ _ _ _ _
    (TookUpTo-all _ _ _ _ _ _ _ _ _ _ _ c.loop-turn.invariant.took c.loop-turn.invariant.went _ c.loop-turn.invariant.within (λ below. absurd (omega (arith, below))))

pub returns-clause-some : goal.returns-clause-some
returns-clause-some g c =
    some_of (asking_of c.args.asked) c.args.asked.until c.args.asked.count _ _ _ _ _ _ _
    (TookUpTo-some _ _ _ _ _ _ _ _ _ _ _ c.loop-turn.invariant.took c.loop-turn.invariant.went _ _ _ _ _ (omega arith) (omega arith) c.loop-turn.invariant.within c.loop-turn.invariant.went refl c.loop-turn.invariant.ticks)

pub returns-clause-ticks : goal.returns-clause-ticks
returns-clause-ticks g c =
    ticks_of (asking_of c.args.asked) c.args.asked.until c.args.asked.count _ _ _ _ _
    (ticks_until _ _ _ _ _ _ _ _ _ c.loop-turn.invariant.within c.loop-turn.invariant.went c.loop-turn.invariant.ticks)

pub returns-clause-reports : goal.returns-clause-reports
returns-clause-reports g c = c.loop-turn.invariant.reports

pub returns-clause-lets_go : goal.returns-clause-lets_go
returns-clause-lets_go g c = c.loop-turn.invariant.lets_go

-- ---- what comes next couldn't be read

pub returns-in_err-is_past-clause-some : goal.returns-in_err-is_past-clause-some
returns-in_err-is_past-clause-some g c =
    some_of (asking_of c.args.asked) c.args.asked.until c.args.asked.count _ _ _ _ _ _ _
    (TookUpTo-some _ _ _ _ _ _ _ _ _ _ _ c.loop-turn.invariant.took c.loop-turn.invariant.went _ _ _ _ _ (omega arith) (omega arith) c.loop-turn.invariant.within c.loop-turn.invariant.went refl c.loop-turn.invariant.ticks)

pub returns-in_err-is_past-clause-ticks : goal.returns-in_err-is_past-clause-ticks
returns-in_err-is_past-clause-ticks g c =
    ticks_of (asking_of c.args.asked) c.args.asked.until c.args.asked.count _ _ _ _ _
    (ticks_until _ _ _ _ _ _ _ _ _ c.loop-turn.invariant.within c.loop-turn.invariant.went c.loop-turn.invariant.ticks)

-- ---- a record comes from the moment on

pub returns-then-branch-clause-took : goal.returns-then-branch-clause-took
returns-then-branch-clause-took g c =
    let yet = moved_open c.loop-turn.dump c.is_past.new.self c.in_ok-is_past.ensures.moved (sym c.is_over.ensures ∙ c.if-is_over.false) in
    let moved = TookUnits-moved _ _ _ _ _ _ _ _ _ _ _ c.loop-turn.invariant.took c.loop-turn.invariant.went _ _ c.in_ok-is_past.ensures.moved c.in_ok-is_past.ensures.same in
    took_of (asking_of c.args.asked) c.args.asked.until c.args.asked.count _ _ _ _ _ _ _ _
    (TookUpTo-all _ _ _ _ _ _ _ _ _ _ _ moved c.loop-turn.invariant.went _ c.loop-turn.invariant.within (λ below. stops_past _ _ _ yet _ c.in_ok-is_past.ensures.tells c.if-branch.true))

pub returns-then-branch-clause-some : goal.returns-then-branch-clause-some
returns-then-branch-clause-some g c =
    some_of (asking_of c.args.asked) c.args.asked.until c.args.asked.count _ _ _ _ _ _ _
    (TookUpTo-some _ _ _ _ _ _ _ _ _ _ _ c.loop-turn.invariant.took c.loop-turn.invariant.went _ _ _ _ _ (omega arith) (omega arith) c.loop-turn.invariant.within c.loop-turn.invariant.went refl c.loop-turn.invariant.ticks)

pub returns-then-branch-clause-ticks : goal.returns-then-branch-clause-ticks
returns-then-branch-clause-ticks g c =
    ticks_of (asking_of c.args.asked) c.args.asked.until c.args.asked.count _ _ _ _ _
    (ticks_until _ _ _ _ _ _ _ _ _ c.loop-turn.invariant.within c.loop-turn.invariant.went c.loop-turn.invariant.ticks)

-- ---- a unit is taken

pub returns-in_err-take_unit-clause-some : goal.returns-in_err-take_unit-clause-some
returns-in_err-take_unit-clause-some g c =
    let goes = peeked _ _ _ _ _ _ c.loop-turn._turn _ _ _ _ _ _ _ c.loop-turn.invariant.took c.loop-turn.invariant.went (sym c.is_over.ensures ∙ c.if-is_over.false) c.in_ok-is_past.ensures.moved
    c.in_ok-is_past.ensures.same c.in_ok-is_past.ensures.tells c.if-branch.false in
    some_of (asking_of c.args.asked) c.args.asked.until c.args.asked.count _ _ _ _ _ _ _
    (TookUpTo-some _ _ _ _ _ _ _ _ _ _ _ c.loop-turn.invariant.took c.loop-turn.invariant.went _ (c.loop-turn._turn + 1) _ _ _ (omega arith) (omega arith) (omega arith) goes.2
    (ap (append_known (g.W.Sink.written c.loop-turn.out)) c.in_err-take_unit.ensures.err)
    (ticks_next _ c.loop-turn._turn _ _ _ _ _ _ _ _ _ _ _ goes.1 c.loop-turn.invariant.ticks goes.0 c.take_unit.ensures.ticks))

pub returns-in_err-take_unit-clause-ticks : goal.returns-in_err-take_unit-clause-ticks
returns-in_err-take_unit-clause-ticks g c =
    let goes = peeked _ _ _ _ _ _ c.loop-turn._turn _ _ _ _ _ _ _ c.loop-turn.invariant.took c.loop-turn.invariant.went (sym c.is_over.ensures ∙ c.if-is_over.false) c.in_ok-is_past.ensures.moved
    c.in_ok-is_past.ensures.same c.in_ok-is_past.ensures.tells c.if-branch.false in
    ticks_of (asking_of c.args.asked) c.args.asked.until c.args.asked.count _ _ _ _ _
    (ticks_until _ _ _ _ _ _ (c.loop-turn._turn + 1) _ _ (omega arith) goes.2
    (ticks_next _ c.loop-turn._turn _ _ _ _ _ _ _ _ _ _ _ goes.1 c.loop-turn.invariant.ticks goes.0 c.take_unit.ensures.ticks))

pub returns-in_err-flush_before-clause-some : goal.returns-in_err-flush_before-clause-some
returns-in_err-flush_before-clause-some g c =
    let goes = peeked _ _ _ _ _ _ c.loop-turn._turn _ _ _ _ _ _ _ c.loop-turn.invariant.took c.loop-turn.invariant.went (sym c.is_over.ensures ∙ c.if-is_over.false) c.in_ok-is_past.ensures.moved
    c.in_ok-is_past.ensures.same c.in_ok-is_past.ensures.tells c.if-branch.false in
    some_of (asking_of c.args.asked) c.args.asked.until c.args.asked.count _ _ _ _ _ _ _
    (TookUpTo-some _ _ _ _ _ _ (c.loop-turn._turn + 1) _ _ _ (append_known (g.W.Sink.written c.loop-turn.out) c.take_unit.new.text.items)
    (TookUnits-next _ _ _ _ _ c.loop-turn._turn _ _ _ _ _ _ _ _ (g.W.Sink.written c.loop-turn.out) _ _ goes.1 goes.0 c.in_ok-take_unit.ensures.took refl refl) goes.2
    _ (c.loop-turn._turn + 1) _ _ _ (omega arith) (omega arith) (omega arith) goes.2 c.flush_before.ensures.same
    (ticks_next _ c.loop-turn._turn _ _ _ _ _ _ _ _ _ _ _ goes.1 c.loop-turn.invariant.ticks goes.0 c.take_unit.ensures.ticks))

pub returns-in_err-flush_before-clause-ticks : goal.returns-in_err-flush_before-clause-ticks
returns-in_err-flush_before-clause-ticks g c =
    let goes = peeked _ _ _ _ _ _ c.loop-turn._turn _ _ _ _ _ _ _ c.loop-turn.invariant.took c.loop-turn.invariant.went (sym c.is_over.ensures ∙ c.if-is_over.false) c.in_ok-is_past.ensures.moved
    c.in_ok-is_past.ensures.same c.in_ok-is_past.ensures.tells c.if-branch.false in
    ticks_of (asking_of c.args.asked) c.args.asked.until c.args.asked.count _ _ _ _ _
    (ticks_until _ _ _ _ _ _ (c.loop-turn._turn + 1) _ _ (omega arith) goes.2
    (ticks_next _ c.loop-turn._turn _ _ _ _ _ _ _ _ _ _ _ goes.1 c.loop-turn.invariant.ticks goes.0 c.take_unit.ensures.ticks))

pub returns-in_err-flush_before-clause-grows : goal.returns-in_err-flush_before-clause-grows
returns-in_err-flush_before-clause-grows g c = Grows-trans c.loop-turn.invariant.grows c.flush_before.ensures.grows

pub returns-in_err-flush_before-clause-reports : goal.returns-in_err-flush_before-clause-reports
returns-in_err-flush_before-clause-reports g c =
    λ in_line. units_reported _ _ (g.W.Sink.written c.loop-turn.out) _ _ (c.loop-turn.invariant.reports in_line)
    (c.take_unit.ensures.reports in_line (g.W.Sink.written c.loop-turn.out)) c.flush_before.ensures.same

pub loop-turn-preserved : goal.loop-turn-preserved
loop-turn-preserved g c =
    let goes = peeked _ _ _ _ _ _ c.loop-turn._turn _ _ _ _ _ _ _ c.loop-turn.invariant.took c.loop-turn.invariant.went (sym c.is_over.ensures ∙ c.if-is_over.false) c.in_ok-is_past.ensures.moved
    c.in_ok-is_past.ensures.same c.in_ok-is_past.ensures.tells c.if-branch.false in
    let file : c.is_past.new.self.file ≡ c.args.dump.now.file = c.is_past.ensures.file ∙ c.loop-turn.invariant.file in
    record {
      took = TookUnits-next _ _ _ _ _ c.loop-turn._turn _ _ _ _ _ _ _ _ (g.W.Sink.written c.loop-turn.out) _ _ goes.1 goes.0 c.in_ok-take_unit.ensures.took refl c.flush_before.ensures.same;
      went = goes.2;
      within = omega arith;
      file = c.take_unit.ensures.file ∙ file;
      lets_go = LetsGo-next c.args.dump.now c.is_past.new.self c.take_unit.new.dump _ goes.0 c.in_ok-take_unit.ensures.lets_go;
      few = record {
        taken = omega (arith, c.in_ok-take_unit.ensures.few.taken, c.loop-turn.invariant.few.taken, moved_taken c.loop-turn.dump c.is_past.new.self c.in_ok-is_past.ensures.moved);
        passed = omega (arith, c.in_ok-take_unit.ensures.few.passed, c.loop-turn.invariant.few.passed);
        refused = omega (arith, c.in_ok-take_unit.ensures.few.refused, c.loop-turn.invariant.few.refused);
        origins = c.in_ok-take_unit.ensures.few.origins ∙ c.loop-turn.invariant.few.origins;
      };
      ticks = ticks_next _ c.loop-turn._turn _ _ _ _ _ _ _ _ _ _ _ goes.1 c.loop-turn.invariant.ticks goes.0 c.take_unit.ensures.ticks;
      others = Leaves-trans c.loop-turn.invariant.others
          (Leaves-trans
          (subst (λ (file : ℕ). Leaves (λ other. other ≢ file) (g.F.Shelf.files c.loop-turn.shelf) (g.F.Shelf.files c.is_past.new.shelf)) c.loop-turn.invariant.file c.is_past.ensures.others)
          (subst (λ (file : ℕ). Leaves (λ other. other ≢ file) (g.F.Shelf.files c.is_past.new.shelf) (g.F.Shelf.files c.take_unit.new.shelf)) file c.take_unit.ensures.others));
      opened = c.take_unit.ensures.opened ∙ c.is_past.ensures.opened ∙ c.loop-turn.invariant.opened;
      shelf_faults = omega (arith, c.take_unit.ensures.faults, c.is_past.ensures.faults, c.loop-turn.invariant.shelf_faults);
      grows = Grows-trans c.loop-turn.invariant.grows c.flush_before.ensures.grows;
      sink_faults = omega (arith, c.flush_before.ensures.cause.later, c.loop-turn.invariant.sink_faults);
      reports = λ in_line. units_reported _ _ (g.W.Sink.written c.loop-turn.out) _ _ (c.loop-turn.invariant.reports in_line)
          (c.take_unit.ensures.reports in_line (g.W.Sink.written c.loop-turn.out)) c.flush_before.ensures.same;
    }
