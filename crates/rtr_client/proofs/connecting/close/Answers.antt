use Rattle.connection_calls.proofs.ConnectionLemmas.{Spares-refl, Only-loud}
use Rattle.rtr_client.proofs.ConnectingLemmas.{closed_as}
use Rattle.connection_calls.proofs.FaultsLemmas.{BreaksByFault-refl, breaks_closed}
use Rattle.rtr_client.proofs.connecting.close.Goals as goal

pub returns-in-Some-clause-closed : goal.returns-in-Some-clause-closed
returns-in-Some-clause-closed g c = rw c.in-Some.is (closed_as _ _ c.in-Some.feed c.close.ensures.closed)

pub returns-in-Some-clause-spares : goal.returns-in-Some-clause-spares
returns-in-Some-clause-spares g c = rw c.in-Some.is (Only-loud _ _ c.close.ensures.later c.close.ensures.closed c.close.ensures.standings)

pub returns-in-None-clause-spares : goal.returns-in-None-clause-spares
returns-in-None-clause-spares g c = Spares-refl _ _ _

pub returns-in-Some-clause-broke : goal.returns-in-Some-clause-broke
returns-in-Some-clause-broke g c = breaks_closed _ _ _ c.close.ensures.faults c.close.ensures.standings

pub returns-in-None-clause-broke : goal.returns-in-None-clause-broke
returns-in-None-clause-broke g c = BreaksByFault-refl _ _
