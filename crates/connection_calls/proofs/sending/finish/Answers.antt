use Rattle.connection_calls.proofs.ConnectionLemmas.{Spares-trans, Only-loud, finishes}
use Rattle.connection_calls.proofs.FaultsLemmas.{BreaksByFault-trans, breaks_closed}
use Rattle.connection_calls.proofs.sending.finish.Goals as goal

pub returns-clause-finishes : goal.returns-clause-finishes
returns-clause-finishes g c = λ got gave now.
    finishes _ _ (g.K.Links.standings c.send_all-whole.new.links) c.args.link got gave c.args.bytes.now c.send_all-whole.result (g.met.K.Links.agrees c.send_all-whole.new.links) c.send_all-whole.ensures.usable
    (c.send_all-whole.ensures.sends got gave now) c.close.ensures.closed

pub returns-clause-only : goal.returns-clause-only
returns-clause-only g c = Spares-trans c.send_all-whole.ensures.only (Only-loud _ _ c.close.ensures.later c.close.ensures.closed c.close.ensures.standings)

pub returns-clause-broke : goal.returns-clause-broke
returns-clause-broke g c = BreaksByFault-trans c.send_all-whole.ensures.broke (breaks_closed _ _ _ c.close.ensures.faults c.close.ensures.standings)
