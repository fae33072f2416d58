use Rattle.std.proofs.Common.{sym, subst}
use Rattle.rtr_server.specs.declared.serving.Step.{Step}
use Rattle.rtr_server.specs.Serving.{Serving}
use Rattle.rtr_server.specs.Steps.{SteppedAs}
use Rattle.connection_calls.proofs.ConnectionLemmas.{Only-loud, Spares-refl}
use Rattle.rtr_server.proofs.ServingLemmas.{more_goes_on, over_closed}
use Rattle.connection_calls.proofs.FaultsLemmas.{BreaksByFault-refl, breaks_closed}
use Rattle.rtr_server.proofs.serving.after_reply.Goals as goal

pub returns-in-More-clause-steps : goal.returns-in-More-clause-steps
returns-in-More-clause-steps g c = λ cache used sent bytes reply pdu taken before replies frame counted now.
    more_goes_on (g.K.Links.wire c.args.links.now) c.args.link cache (record { used = used; sent = sent; taken = taken; answers = before }) c.args.framer bytes reply pdu c.args.turn c.args.answers replies c.in-More.is frame counted now

pub returns-in-More-clause-only : goal.returns-in-More-clause-only
returns-in-More-clause-only g c = Spares-refl _ _ _

pub returns-in-Close-clause-steps : goal.returns-in-Close-clause-steps
returns-in-Close-clause-steps g c = λ cache used sent bytes reply pdu taken before replies frame counted now.
    let old : Serving = record { used = used; sent = sent; taken = taken; answers = before } in
    subst (λ (step : Step). SteppedAs (g.K.Links.wire c.close.new.self) c.args.link cache old step) (sym c.ended.ensures)
    (λ count. over_closed cache old count (g.K.Links.standings c.args.links.now) (g.met.K.Links.agrees c.args.links.now) c.requires.usable c.args.framer bytes reply pdu c.args.turn c.args.answers replies c.in-Close.is frame counted now c.close.ensures.closed)

pub returns-in-Close-clause-only : goal.returns-in-Close-clause-only
returns-in-Close-clause-only g c = Only-loud _ _ c.close.ensures.later c.close.ensures.closed c.close.ensures.standings

pub returns-in-More-clause-broke : goal.returns-in-More-clause-broke
returns-in-More-clause-broke g c = BreaksByFault-refl _ _

pub returns-in-Close-clause-broke : goal.returns-in-Close-clause-broke
returns-in-Close-clause-broke g c = breaks_closed _ _ _ c.close.ensures.faults c.close.ensures.standings
