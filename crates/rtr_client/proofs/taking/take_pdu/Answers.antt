use Rattle.std.proofs.Common.{◌+◌, refl}
use Rattle.rtr_client.specs.Feeds.{TakesNext}
use Rattle.rtr_client.specs.Steps.{going, made_in}
use Rattle.rtr_client.proofs.CountingLemmas.{moved_halted, moved_took, none_halted}
use Rattle.rtr_client.proofs.TakingLemmas.{on_err}
use Rattle.rtr_client.proofs.taking.take_pdu.Goals as goal

pub returns-clause-took : goal.returns-clause-took
returns-clause-took g c = λ state judgements stands.
    moved_took (g.K.Links.wire c.move_feed.new.links) c.args.feed.link c.in_ok-outcome.change (λ t. TakesNext t c.args.name.now state) (made_in c.follow.new.progress) c.args.steps.now c.follow.new.steps (going state (made_in c.args.progress.now) judgements)
    c.in_ok-outcome.outcome (c.in_ok-outcome.ensures.moved state stands) (λ slot. c.in_ok-follow.ensures.follows (going state (made_in c.args.progress.now) judgements) slot refl refl)

pub returns-in_err-outcome-clause-halts : goal.returns-in_err-outcome-clause-halts
returns-in_err-outcome-clause-halts g c =
    on_err c.from_residual.result c.from_residual.ensures.0
    (λ state judgements stands.
    none_halted _ _ c.args.feed (λ t. TakesNext t c.args.name.now state (going state (made_in c.args.progress.now) judgements)) (made_in c.args.progress.now) c.args.steps.now state judgements stands c.in_err-outcome.ensures.halts
    (g.K.Links.standings c.move_feed.new.links) (g.met.K.Links.agrees c.move_feed.new.links) c.in_err-outcome.ensures.err_usable)

pub returns-in_err-follow-clause-halts : goal.returns-in_err-follow-clause-halts
returns-in_err-follow-clause-halts g c =
    on_err c.from_residual-in_err-follow.result c.from_residual-in_err-follow.ensures.0
    (λ state judgements stands.
    moved_halted (g.K.Links.wire c.move_feed.new.links) c.args.feed.link c.in_ok-outcome.change (λ t. TakesNext t c.args.name.now state) (made_in c.follow.new.progress) c.args.steps.now c.follow.new.steps (going state (made_in c.args.progress.now) judgements)
    c.follow.result c.in_ok-outcome.outcome (c.in_ok-outcome.ensures.moved state stands) (λ slot. c.follow.ensures.follows (going state (made_in c.args.progress.now) judgements) slot refl refl)
    (g.K.Links.standings c.move_feed.new.links) (c.args.feed.taken + 1) (g.met.K.Links.agrees c.move_feed.new.links) c.in_ok-outcome.ensures.fits)
