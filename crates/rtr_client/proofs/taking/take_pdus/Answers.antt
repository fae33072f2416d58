use Rattle.std.proofs.Common.{◌≡◌, ◌+◌, ℕ, false, refl, sym, subst, ◌∙◌, arith}
use Rattle.rtr_client.specs.declared.taking.Outcome.{Outcome}
use Rattle.rtr_client.specs.declared.taking.Outcome.TheVariants.{Open as GoesOn, Ended}
use Rattle.connection_calls.specs.Moves.{Only}
use Rattle.rtr_client.specs.Feeds.{is_enough_at}
use Rattle.rtr_client.specs.Holding.{AreWithin}
use Rattle.rtr_client.specs.Steps.{OutcomeFits, going, made_in}
use Rattle.connection_calls.proofs.ConnectionLemmas.{Spares-refl, Spares-trans}
use Rattle.connection_calls.proofs.FaultsLemmas.{BreaksByFault-refl, BreaksByFault-trans}
use Rattle.rtr_client.proofs.TakingLemmas.{pdus_start, pdus_next, pdus_ended, pdus_enough, pdus_halted, on_err}
use Rattle.rtr_client.proofs.CountingLemmas.{beside_trans}
use Rattle.rtr_client.proofs.taking.take_pdus.Goals as goal

pub loop-turn-init : goal.loop-turn-init
loop-turn-init g c = record {
  took = λ state judgements stands. pdus_start c.args.wanted.until_ready c.args.wanted.name.now (going state (made_in c.args.progress.now) judgements) c.args.feed.link c.args.steps.now _ c.args.feed state (made_in c.args.progress.now) refl refl stands;
  within = omega arith;
  fit = c.requires.fit;
  same = refl;
  most = omega arith;
  only = Spares-refl _ _ _;
  stays = refl;
  attempts = refl;
  broke = BreaksByFault-refl _ _;
}

pub returns-then-is_enough-clause-took : goal.returns-then-is_enough-clause-took
returns-then-is_enough-clause-took g c = λ state judgements stands.
    pdus_enough c.args.wanted.until_ready c.args.wanted.name.now (going state (made_in c.args.progress.now) judgements) c.args.feed.link (AreWithin c.args.steps.now c.loop-turn.steps judgements) _ c.loop-turn._turn c.args.wanted.count (made_in c.loop-turn.progress)
    c.loop-turn.invariant.within c.loop-turn.feed (sym c.is_enough.ensures ∙ c.if-is_enough.true) (c.loop-turn.invariant.took state judgements stands)

pub returns-in_err-outcome-clause-halts : goal.returns-in_err-outcome-clause-halts
returns-in_err-outcome-clause-halts g c =
    on_err c.from_residual.result c.from_residual.ensures.0
    (λ state judgements stands.
    pdus_halted c.args.wanted.until_ready c.args.wanted.name.now (going state (made_in c.args.progress.now) judgements) c.args.feed.link c.args.steps.now c.loop-turn.steps c.take_pdu.new.steps (g.K.Links.wire c.loop-turn.links) _
    c.loop-turn._turn c.loop-turn.feed (made_in c.loop-turn.progress) c.loop-turn.invariant.same (sym c.is_enough.ensures ∙ c.if-is_enough.false) c.take_pdu.ensures.only.later (c.loop-turn.invariant.took state judgements stands)
    c.args.wanted.count (omega arith) c.in_err-outcome.ensures.halts)

pub returns-in_err-outcome-clause-only : goal.returns-in_err-outcome-clause-only
returns-in_err-outcome-clause-only g c =
    Spares-trans c.loop-turn.invariant.only
    (subst (λ (k : ℕ). Only k (g.K.Links.wire c.loop-turn.links) (g.K.Links.wire c.take_pdu.new.links) (g.K.Links.standings c.loop-turn.links) (g.K.Links.standings c.take_pdu.new.links)) c.loop-turn.invariant.same c.take_pdu.ensures.only)

pub returns-in-Ended-clause-took : goal.returns-in-Ended-clause-took
returns-in-Ended-clause-took g c =
    let more : is_enough_at c.args.wanted.until_ready c.loop-turn.feed.session.phase ≡ false = sym c.is_enough.ensures ∙ c.if-is_enough.false in
    λ state judgements stands.
    pdus_ended c.args.wanted.until_ready c.args.wanted.name.now (going state (made_in c.args.progress.now) judgements) c.args.feed.link (AreWithin c.args.steps.now c.take_pdu.new.steps judgements) _ (c.loop-turn._turn + 1) c.args.wanted.count (made_in c.take_pdu.new.progress) (omega arith)
    c.in-Ended.telling
    (pdus_next c.args.wanted.until_ready c.args.wanted.name.now (going state (made_in c.args.progress.now) judgements) c.args.feed.link c.args.steps.now c.loop-turn.steps c.take_pdu.new.steps (g.K.Links.wire c.loop-turn.links) _
    c.loop-turn._turn c.loop-turn.feed (made_in c.loop-turn.progress) c.loop-turn.invariant.same more c.take_pdu.ensures.only.later (c.loop-turn.invariant.took state judgements stands)
    (made_in c.take_pdu.new.progress) c.in_ok-outcome.outcome (Ended c.in-Ended.telling) c.in-Ended.is c.in_ok-outcome.ensures.took)

pub returns-in-Ended-clause-only : goal.returns-in-Ended-clause-only
returns-in-Ended-clause-only g c =
    Spares-trans c.loop-turn.invariant.only
    (subst (λ (k : ℕ). Only k (g.K.Links.wire c.loop-turn.links) (g.K.Links.wire c.take_pdu.new.links) (g.K.Links.standings c.loop-turn.links) (g.K.Links.standings c.take_pdu.new.links)) c.loop-turn.invariant.same c.take_pdu.ensures.only)

pub loop-turn-preserved : goal.loop-turn-preserved
loop-turn-preserved g c =
    let more : is_enough_at c.args.wanted.until_ready c.loop-turn.feed.session.phase ≡ false = sym c.is_enough.ensures ∙ c.if-is_enough.false in
    let fits = subst (λ (o : Outcome). OutcomeFits (g.K.Links.standings c.take_pdu.new.links) c.loop-turn.feed.link (c.loop-turn.feed.taken + 1) o) c.in-Open.is c.in_ok-outcome.ensures.fits in
    record {
      took = λ state judgements stands.
          pdus_next c.args.wanted.until_ready c.args.wanted.name.now (going state (made_in c.args.progress.now) judgements) c.args.feed.link c.args.steps.now c.loop-turn.steps c.take_pdu.new.steps (g.K.Links.wire c.loop-turn.links) _
          c.loop-turn._turn c.loop-turn.feed (made_in c.loop-turn.progress) c.loop-turn.invariant.same more c.take_pdu.ensures.only.later (c.loop-turn.invariant.took state judgements stands)
          (made_in c.take_pdu.new.progress) c.in_ok-outcome.outcome (GoesOn c.in-Open.more) c.in-Open.is c.in_ok-outcome.ensures.took;
      within = omega arith;
      fit = fits.0;
      same = fits.1 ∙ c.loop-turn.invariant.same;
      most = omega (arith, fits.2, c.loop-turn.invariant.most);
      only = Spares-trans c.loop-turn.invariant.only
          (subst (λ (k : ℕ). Only k (g.K.Links.wire c.loop-turn.links) (g.K.Links.wire c.take_pdu.new.links) (g.K.Links.standings c.loop-turn.links) (g.K.Links.standings c.take_pdu.new.links)) c.loop-turn.invariant.same c.take_pdu.ensures.only);
      stays = beside_trans c.args.progress.now c.loop-turn.progress c.take_pdu.new.progress c.loop-turn.invariant.stays c.take_pdu.ensures.stays;
      attempts = c.take_pdu.ensures.attempts ∙ c.loop-turn.invariant.attempts;
      broke = BreaksByFault-trans c.loop-turn.invariant.broke c.take_pdu.ensures.broke;
    }

pub returns-clause-took : goal.returns-clause-took
returns-clause-took g c =
    let e : c.loop-turn._turn ≡ c.args.wanted.count = omega arith in
    rw e at c.loop-turn.invariant.took

pub returns-in-Ended-clause-fits : goal.returns-in-Ended-clause-fits
returns-in-Ended-clause-fits g c = subst (λ (o : Outcome). OutcomeFits (g.K.Links.standings c.take_pdu.new.links) c.loop-turn.feed.link (c.loop-turn.feed.taken + 1) o) c.in-Ended.is c.in_ok-outcome.ensures.fits

pub returns-in_err-outcome-clause-broke : goal.returns-in_err-outcome-clause-broke
returns-in_err-outcome-clause-broke g c = BreaksByFault-trans c.loop-turn.invariant.broke c.take_pdu.ensures.broke

pub returns-in-Ended-clause-broke : goal.returns-in-Ended-clause-broke
returns-in-Ended-clause-broke g c = BreaksByFault-trans c.loop-turn.invariant.broke c.take_pdu.ensures.broke

-- ---- beside the analysis and the origin records

pub returns-in_err-outcome-clause-stays : goal.returns-in_err-outcome-clause-stays
returns-in_err-outcome-clause-stays g c = beside_trans c.args.progress.now c.loop-turn.progress c.take_pdu.new.progress c.loop-turn.invariant.stays c.take_pdu.ensures.stays

pub returns-in-Ended-clause-stays : goal.returns-in-Ended-clause-stays
returns-in-Ended-clause-stays g c = beside_trans c.args.progress.now c.loop-turn.progress c.take_pdu.new.progress c.loop-turn.invariant.stays c.take_pdu.ensures.stays
