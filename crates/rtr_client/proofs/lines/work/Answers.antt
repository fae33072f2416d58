use Rattle.std.proofs.Common.{◌+◌, ◌^◌, refl}
use Rattle.rtr_client.specs.Lines.{units_of}
use Rattle.rtr_client.specs.Tellings.{asking_by}
use Rattle.rtr_client.proofs.TakingLemmas.{on_err}
use Rattle.rtr_client.proofs.LineLemmas.{work_goes, work_unwritten, work_began, work_stays}
use Rattle.rtr_client.proofs.lines.work.Goals as goal

pub returns-in_err-told-clause-part : goal.returns-in_err-told-clause-part
returns-in_err-told-clause-part g c =
    on_err c.from_residual.result c.from_residual.ensures.0
    (work_began (g.K.Links.attempts c.args.links.now) (g.K.Links.attempts c.work_named.new.links) (g.K.Links.wire c.args.links.now) (g.K.Links.wire c.work_named.new.links) c.args.feeds.now c.args.progress.now
    c.args.text.now.items c.args.text.now.items (asking_by c.args.asker) c.args.work c.args.steps.now c.work_named.new.steps c.work_named.ensures.attempts c.work_named.ensures.others.later
    c.in_err-told.ensures.halts refl)

pub returns-in_err-report-clause-part : goal.returns-in_err-report-clause-part
returns-in_err-report-clause-part g c =
    on_err c.from_residual-in_err-report.result c.from_residual-in_err-report.ensures.0
    (work_unwritten (g.K.Links.attempts c.args.links.now) (g.K.Links.attempts c.work_named.new.links) (g.K.Links.wire c.args.links.now) (g.K.Links.wire c.work_named.new.links) c.args.feeds.now c.args.progress.now
    c.args.text.now.items c.report.new.text.items (asking_by c.args.asker) c.args.work c.args.steps.now c.work_named.new.steps c.work_named.ensures.attempts c.work_named.ensures.others.later
    c.work_named.new.feeds c.in_ok-told.told c.work_named.new.progress c.work_named.ensures.stays c.in_ok-told.ensures.works c.in_err-report.ensures.err (g.K.Links.standings c.work_named.new.links) (2 ^ 61 + units_of c.args.work)
    (g.met.K.Links.agrees c.work_named.new.links) (c.in_ok-told.ensures.sound (2 ^ 61) c.requires.sound))

pub returns-clause-goes : goal.returns-clause-goes
returns-clause-goes g c =
    work_goes (g.K.Links.attempts c.args.links.now) (g.K.Links.attempts c.work_named.new.links) (g.K.Links.wire c.args.links.now) (g.K.Links.wire c.work_named.new.links) c.args.feeds.now c.args.progress.now
    c.args.text.now.items c.report.new.text.items (asking_by c.args.asker) c.args.work c.args.steps.now c.work_named.new.steps c.work_named.ensures.attempts c.work_named.ensures.others.later
    c.work_named.new.feeds c.in_ok-told.told c.work_named.new.progress c.work_named.ensures.stays c.in_ok-told.ensures.works c.report.new.progress c.in_ok-report.ensures.text c.report.ensures.stays c.in_ok-report.ensures.counted

pub returns-clause-tells : goal.returns-clause-tells
returns-clause-tells g c = (c.in_ok-told.told, c.in_ok-report.ensures.text, c.in_ok-told.ensures.reached)

pub returns-in_err-report-clause-stays : goal.returns-in_err-report-clause-stays
returns-in_err-report-clause-stays g c = work_stays c.args.progress.now c.work_named.new.progress c.report.new.progress c.work_named.ensures.stays c.report.ensures.stays

pub returns-clause-stays : goal.returns-clause-stays
returns-clause-stays g c = work_stays c.args.progress.now c.work_named.new.progress c.report.new.progress c.work_named.ensures.stays c.report.ensures.stays
