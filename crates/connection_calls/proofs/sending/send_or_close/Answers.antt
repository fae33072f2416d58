use Rattle.std.proofs.Common.{Bool, subst}
use Rattle.connection_calls.specs.Moves.{Sends}
use Rattle.connection_calls.proofs.ConnectionLemmas.{Spares-trans, Only-loud, sends_lost}
use Rattle.connection_calls.proofs.FaultsLemmas.{BreaksByFault-trans, breaks_closed}
use Rattle.connection_calls.proofs.sending.send_or_close.Goals as goal

pub returns-clause-sends : goal.returns-clause-sends
returns-clause-sends g c = λ got gave now.
    sends_lost (subst (λ (w : Bool). Sends (g.K.Links.wire c.send_all.new.links) c.args.link got gave c.args.bytes.now w) c.if-send_all.false (c.send_all.ensures.sends got gave now)) c.close.ensures.closed

pub returns-clause-only : goal.returns-clause-only
returns-clause-only g c = Spares-trans c.send_all.ensures.only (Only-loud _ _ c.close.ensures.later c.close.ensures.closed c.close.ensures.standings)

pub returns-clause-broke : goal.returns-clause-broke
returns-clause-broke g c = BreaksByFault-trans c.send_all.ensures.broke (breaks_closed _ _ _ c.close.ensures.faults c.close.ensures.standings)
