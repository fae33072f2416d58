use Rattle.rtr_client.specs.Holding.{AreWithin}
use Rattle.rtr_client.specs.Steps.{going, made_in}
use Rattle.rtr_client.proofs.TakingLemmas.{on_err}
use Rattle.rtr_client.proofs.WorkingLemmas.{not_unreachable, told_reached, took_halted, took_kept, took_over}
use Rattle.rtr_client.proofs.working.take_some.Goals as goal

pub returns-in-Open-clause-works : goal.returns-in-Open-clause-works
returns-in-Open-clause-works g c =
    let one = (rw c.in-Open.is at c.in_ok-outcome.ensures) in
    λ state judgements stands.
    took_kept (g.K.Links.wire c.take_pdus.new.links) c.args.feed.link (AreWithin c.args.steps.now c.take_pdus.new.steps judgements) c.args.wanted.name.now c.args.wanted.count state (going state (made_in c.args.progress.now) judgements)
    c.args.wanted.until_ready (made_in c.take_pdus.new.progress) c.in-Open.feed c.told_open-told.result c.told_open-told.ensures (one.took state judgements stands)

pub returns-in-Ended-clause-works : goal.returns-in-Ended-clause-works
returns-in-Ended-clause-works g c =
    let one = (rw c.in-Ended.is at c.in_ok-outcome.ensures) in
    λ state judgements stands.
    took_over (g.K.Links.wire c.take_pdus.new.links) c.args.feed.link (AreWithin c.args.steps.now c.take_pdus.new.steps judgements) c.args.wanted.name.now c.args.wanted.count state (going state (made_in c.args.progress.now) judgements)
    c.args.wanted.until_ready (made_in c.take_pdus.new.progress) c.in-Ended.telling (one.took state judgements stands)

pub returns-in_err-outcome-clause-halts : goal.returns-in_err-outcome-clause-halts
returns-in_err-outcome-clause-halts g c =
    on_err c.from_residual.result c.from_residual.ensures.0
    (λ state judgements stands.
    took_halted (g.K.Links.wire c.take_pdus.new.links) c.args.feed.link (AreWithin c.args.steps.now c.take_pdus.new.steps judgements) c.args.wanted.name.now c.args.wanted.count state (going state (made_in c.args.progress.now) judgements)
    c.args.wanted.until_ready (c.in_err-outcome.ensures.halts state judgements stands))

pub returns-in-Open-clause-reached : goal.returns-in-Open-clause-reached
returns-in-Open-clause-reached g c = told_reached c.args.wanted.until_ready c.in-Open.feed.session.phase c.told_open-told.result c.told_open-told.ensures

pub returns-in-Ended-clause-reached : goal.returns-in-Ended-clause-reached
returns-in-Ended-clause-reached g c =
    let one = (rw c.in-Ended.is at c.in_ok-outcome.ensures) in
    not_unreachable c.in-Ended.telling one.fits
