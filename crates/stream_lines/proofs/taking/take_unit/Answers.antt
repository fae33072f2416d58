use Rattle.std.proofs.Common.{◌≢◌, ℕ, refl, ap, subst, ◌∙◌}
use Rattle.std.specs.declared.result.Result.{Result}
use Rattle.report_text.specs.declared.cause.Cause.{Cause}
use Rattle.stream_lines.specs.declared.next.Effect.{Effect}
use Rattle.stream_lines.specs.declared.next.Next.TheVariants.{Unit as AUnit}
use Rattle.stream_lines.specs.Frames.{Leaves}
use Rattle.stream_lines.specs.Held.{HeldDump}
use Rattle.stream_lines.specs.Taking.{asking_of}
use Rattle.stream_lines.proofs.FrameLemmas.{Leaves-closes, Leaves-trans}
use Rattle.stream_lines.proofs.HoldingLemmas.{LetsGo-end}
use Rattle.stream_lines.proofs.JudgementLemmas.{ticks_effect}
use Rattle.stream_lines.proofs.ReportedLemmas.{unit_reported}
use Rattle.stream_lines.proofs.TakingLemmas.{took_effect, took_refused, took_broken, took_end}
use Rattle.stream_lines.proofs.taking.take_unit.Goals as goal

pub returns-in_ok-take_effect-in-Unit-Ok-clause-took : goal.returns-in_ok-take_effect-in-Unit-Ok-clause-took
returns-in_ok-take_effect-in-Unit-Ok-clause-took g c =
    took_effect (asking_of c.args.asked) c.args.dump.now c.args.progress.now (g.F.Shelf.files c.args.shelf.now) (g.F.Shelf.files c.next.new.shelf) c.next.new.self.held c.next.new.self.known
    c.in_ok-effect.field-0 c.in_ok-effect.ensures.next c.in-Unit-Ok.effect c.next.new.self c.pass.new.self c.take_effect.new.progress c.args.text.now.items c.args.text.now.items
    (c.in-Unit-Ok.is ∙ ap (λ (r : Result Effect Cause). AUnit r) c.in-Unit-Ok.field-0-is) c.in_ok-effect.ensures.held c.in_ok-take_effect-in-Unit-Ok.ensures.did
    c.pass.ensures refl

pub returns-in_ok-report-in-Unit-Err-clause-took : goal.returns-in_ok-report-in-Unit-Err-clause-took
returns-in_ok-report-in-Unit-Err-clause-took g c =
    took_refused (asking_of c.args.asked) c.args.dump.now c.args.progress.now (g.F.Shelf.files c.args.shelf.now) (g.F.Shelf.files c.next.new.shelf) c.next.new.self.held c.next.new.self.known
    c.in_ok-effect.field-0 c.in_ok-effect.ensures.next c.in-Unit-Err.cause c.next.new.self c.pass-in-Unit-Err.new.self c.refused_once.new.progress c.taken.result c.args.text.now.items c.report.new.text.items
    (c.in-Unit-Err.is ∙ ap (λ (r : Result Effect Cause). AUnit r) c.in-Unit-Err.field-0-is) c.in_ok-effect.ensures.held c.pass-in-Unit-Err.ensures c.refused_once.ensures
    c.taken.ensures c.in_ok-report-in-Unit-Err.ensures.ok

pub returns-in_ok-report-in-Broken-clause-took : goal.returns-in_ok-report-in-Broken-clause-took
returns-in_ok-report-in-Broken-clause-took g c =
    took_broken (asking_of c.args.asked) c.args.dump.now c.args.progress.now (g.F.Shelf.files c.args.shelf.now) (g.F.Shelf.files c.next.new.shelf) c.next.new.self.held c.next.new.self.known
    c.in_ok-effect.field-0 c.in_ok-effect.ensures.next c.in-Broken.cause c.next.new.self c.end.new.self (g.F.Shelf.files c.end.new.shelf) c.refused_once-in-Broken.new.progress c.taken-in-Broken.result
    c.args.text.now.items c.report-in-Broken.new.text.items c.in-Broken.is c.in_ok-effect.ensures.held c.end.ensures.ended c.refused_once-in-Broken.ensures c.taken-in-Broken.ensures
    c.in_ok-report-in-Broken.ensures.ok

pub returns-in-End-clause-took : goal.returns-in-End-clause-took
returns-in-End-clause-took g c =
    took_end (asking_of c.args.asked) c.args.dump.now c.args.progress.now (g.F.Shelf.files c.args.shelf.now) (g.F.Shelf.files c.next.new.shelf) c.next.new.self.held c.next.new.self.known
    c.in_ok-effect.field-0 c.in_ok-effect.ensures.next c.next.new.self c.end-in-End.new.self (g.F.Shelf.files c.end-in-End.new.shelf) c.args.text.now.items c.in-End.is c.in_ok-effect.ensures.held
    c.end-in-End.ensures.ended

-- the steps

pub returns-in_ok-take_effect-in-Unit-Ok-clause-ticks : goal.returns-in_ok-take_effect-in-Unit-Ok-clause-ticks
returns-in_ok-take_effect-in-Unit-Ok-clause-ticks g c =
    ticks_effect (asking_of c.args.asked) c.args.dump.now c.args.progress.now (g.F.Shelf.files c.args.shelf.now) (g.F.Shelf.files c.next.new.shelf) c.next.new.self.held c.next.new.self.known
    c.in_ok-effect.field-0 c.in_ok-effect.ensures.next c.in-Unit-Ok.effect c.args.steps.now c.take_effect.new.steps
    (c.in-Unit-Ok.is ∙ ap (λ (r : Result Effect Cause). AUnit r) c.in-Unit-Ok.field-0-is) c.take_effect.ensures.ticks

pub returns-in_err-take_effect-in-Unit-Ok-clause-ticks : goal.returns-in_err-take_effect-in-Unit-Ok-clause-ticks
returns-in_err-take_effect-in-Unit-Ok-clause-ticks g c =
    ticks_effect (asking_of c.args.asked) c.args.dump.now c.args.progress.now (g.F.Shelf.files c.args.shelf.now) (g.F.Shelf.files c.next.new.shelf) c.next.new.self.held c.next.new.self.known
    c.in_ok-effect.field-0 c.in_ok-effect.ensures.next c.in-Unit-Ok.effect c.args.steps.now c.take_effect.new.steps
    (c.in-Unit-Ok.is ∙ ap (λ (r : Result Effect Cause). AUnit r) c.in-Unit-Ok.field-0-is) c.take_effect.ensures.ticks

-- what is held

pub returns-in_ok-report-in-Unit-Err-clause-reports : goal.returns-in_ok-report-in-Unit-Err-clause-reports
returns-in_ok-report-in-Unit-Err-clause-reports g c = λ in_line written. unit_reported written _ _ _ _ _ _ in_line c.in_ok-report-in-Unit-Err.ensures.ok

pub returns-in_ok-report-in-Broken-clause-reports : goal.returns-in_ok-report-in-Broken-clause-reports
returns-in_ok-report-in-Broken-clause-reports g c = λ in_line written. unit_reported written _ _ _ _ _ _ in_line c.in_ok-report-in-Broken.ensures.ok

-- ---- at the end all is let go

pub returns-in_ok-report-in-Broken-clause-lets_go : goal.returns-in_ok-report-in-Broken-clause-lets_go
returns-in_ok-report-in-Broken-clause-lets_go g c = LetsGo-end c.args.dump.now c.next.new.self c.end.new.self (g.F.Shelf.files c.next.new.shelf) (g.F.Shelf.files c.end.new.shelf) c.end.ensures.ended c.end.ensures.closed

pub returns-in_ok-report-in-Broken-clause-others : goal.returns-in_ok-report-in-Broken-clause-others
returns-in_ok-report-in-Broken-clause-others g c =
    let same = ap (λ (d : HeldDump). d.file) c.next.ensures.held in
    Leaves-trans c.next.ensures.others
    (subst (λ (file : ℕ). Leaves (λ other. other ≢ file) (g.F.Shelf.files c.next.new.shelf) (g.F.Shelf.files c.end.new.shelf)) same (Leaves-closes c.next.new.self.file _ _ c.end.ensures.closed))

pub returns-in-End-clause-lets_go : goal.returns-in-End-clause-lets_go
returns-in-End-clause-lets_go g c = LetsGo-end c.args.dump.now c.next.new.self c.end-in-End.new.self (g.F.Shelf.files c.next.new.shelf) (g.F.Shelf.files c.end-in-End.new.shelf) c.end-in-End.ensures.ended c.end-in-End.ensures.closed

pub returns-in-End-clause-others : goal.returns-in-End-clause-others
returns-in-End-clause-others g c =
    let same = ap (λ (d : HeldDump). d.file) c.next.ensures.held in
    Leaves-trans c.next.ensures.others
    (subst (λ (file : ℕ). Leaves (λ other. other ≢ file) (g.F.Shelf.files c.next.new.shelf) (g.F.Shelf.files c.end-in-End.new.shelf)) same (Leaves-closes c.next.new.self.file _ _ c.end-in-End.ensures.closed))
