use Rattle.std.proofs.Common.{◌∙◌}
use Rattle.connection_calls.proofs.ConnectionLemmas.{KeepsSent-refl, Spares-refl}
use Rattle.connection_calls.proofs.FaultsLemmas.{BreaksByFault-refl}
use Rattle.rtr_client.proofs.TakingLemmas.{on_err}
use Rattle.rtr_client.proofs.WorkingLemmas.{asked_nothing, asked_whole, asked_lost}
use Rattle.rtr_client.proofs.working.ask_feed.Goals as goal

pub returns-in-None-clause-asks : goal.returns-in-None-clause-asks
returns-in-None-clause-asks g c = λ state stands.
    asked_nothing _ (g.K.Links.wire c.args.links.now) c.args.feed c.ask-session.result.0 c.ask-session.result.1 c.ask-session.ensures state stands c.in-None.is

pub returns-in-None-clause-only : goal.returns-in-None-clause-only
returns-in-None-clause-only g c = Spares-refl _ _ _

pub returns-in_err-bytes-in-Some-clause-halts : goal.returns-in_err-bytes-in-Some-clause-halts
returns-in_err-bytes-in-Some-clause-halts g c = on_err c.from_residual.result c.from_residual.ensures.0 (KeepsSent-refl _ _)

pub returns-in_err-bytes-in-Some-clause-only : goal.returns-in_err-bytes-in-Some-clause-only
returns-in_err-bytes-in-Some-clause-only g c = Spares-refl _ _ _

pub returns-then-send_or_close-clause-asks : goal.returns-then-send_or_close-clause-asks
returns-then-send_or_close-clause-asks g c = λ state stands.
    asked_whole _ (g.K.Links.wire c.send_or_close.new.links) c.args.feed c.ask-session.result.0 c.ask-session.result.1 c.ask-session.ensures state stands
    c.in-Some.query _ c.send_or_close.result c.in-Some.is (c.as_slice.ensures.value ∙ c.in_ok-bytes-in-Some.ensures) c.send_or_close.ensures.sends c.if-send_or_close.true

pub returns-else-send_or_close-clause-asks : goal.returns-else-send_or_close-clause-asks
returns-else-send_or_close-clause-asks g c = λ state stands.
    asked_lost _ (g.K.Links.wire c.send_or_close.new.links) c.args.feed c.ask-session.result.0 c.ask-session.result.1 c.ask-session.ensures state stands
    c.in-Some.query _ c.send_or_close.result c.in-Some.is (c.as_slice.ensures.value ∙ c.in_ok-bytes-in-Some.ensures) c.send_or_close.ensures.sends c.if-send_or_close.false

pub returns-in-None-clause-broke : goal.returns-in-None-clause-broke
returns-in-None-clause-broke g c = BreaksByFault-refl _ _

pub returns-in_err-bytes-in-Some-clause-broke : goal.returns-in_err-bytes-in-Some-clause-broke
returns-in_err-bytes-in-Some-clause-broke g c = BreaksByFault-refl _ _
