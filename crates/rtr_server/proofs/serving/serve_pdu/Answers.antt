use Rattle.std.proofs.Common.{sym, subst}
use Rattle.rtr_server.specs.declared.serving.Step.{Step}
use Rattle.rtr_server.specs.Serving.{Serving}
use Rattle.rtr_server.specs.Steps.{SteppedAs}
use Rattle.connection_calls.proofs.ConnectionLemmas.{KeepsSent-trans, Only-loud, Spares-trans}
use Rattle.rtr_server.proofs.ServingLemmas.{asked_ended, asked_lost, err_map, on_err, over_ended, over_failed, pdu_stepped, refused_now, refused_stepped}
use Rattle.connection_calls.proofs.FaultsLemmas.{BreaksByFault-trans, breaks_closed}
use Rattle.rtr_server.proofs.serving.serve_pdu.Goals as goal

pub returns-in_ok-turn-in-Pdu-clause-steps : goal.returns-in_ok-turn-in-Pdu-clause-steps
returns-in_ok-turn-in-Pdu-clause-steps g c =
    pdu_stepped (g.K.Links.wire c.args.links.now) (g.K.Links.wire c.next_pdu.new.links) (g.K.Links.wire c.answer.new.links) c.args.link c.args.cache.now c.args.framer c.in_ok-held.held c.in-Pdu.pdu c.args.count.taken c.args.count.answers c.in_ok-held.asked c.answer.result
    c.in-Pdu.is c.in_ok-held.ensures.answer
    (λ used sent bytes number frame now. c.answer.ensures.steps c.args.cache.now used sent bytes c.in-Pdu.pdu number c.in_ok-turn-in-Pdu.ensures frame now)

pub returns-in_ok-turn-in-Pdu-clause-only : goal.returns-in_ok-turn-in-Pdu-clause-only
returns-in_ok-turn-in-Pdu-clause-only g c = Spares-trans c.next_pdu.ensures.only c.answer.ensures.only

pub returns-in_ok-turn-in-Pdu-clause-broke : goal.returns-in_ok-turn-in-Pdu-clause-broke
returns-in_ok-turn-in-Pdu-clause-broke g c = BreaksByFault-trans c.next_pdu.ensures.broke c.answer.ensures.broke

pub refuse-requires-clause-refused : goal.refuse-requires-clause-refused
refuse-requires-clause-refused g c = refused_now c.in_ok-held.held c.in-Refused.cause c.in_ok-held.asked c.in-Refused.is c.in_ok-held.ensures.refused

pub returns-in-Refused-clause-steps : goal.returns-in-Refused-clause-steps
returns-in-Refused-clause-steps g c =
    refused_stepped (g.K.Links.wire c.args.links.now) (g.K.Links.wire c.next_pdu.new.links) (g.K.Links.wire c.refuse.new.links) c.args.link c.args.cache.now c.args.framer c.in_ok-held.held c.in-Refused.cause c.args.count.taken c.args.count.answers c.in_ok-held.asked c.refuse.result
    c.in-Refused.is c.in_ok-held.ensures.answer c.refuse.ensures.steps

pub returns-in-Refused-clause-only : goal.returns-in-Refused-clause-only
returns-in-Refused-clause-only g c = Spares-trans c.next_pdu.ensures.only c.refuse.ensures.only

pub returns-in-Ended-clause-steps : goal.returns-in-Ended-clause-steps
returns-in-Ended-clause-steps g c = λ used sent now.
    let old : Serving = record { used = used; sent = sent; taken = c.args.count.taken; answers = c.args.count.answers } in
    let asked = asked_ended _ c.args.link used sent c.in_ok-held.held c.in_ok-held.asked c.in-Ended.is (c.in_ok-held.ensures.answer used sent now) in
    subst (λ (step : Step). SteppedAs (g.K.Links.wire c.close.new.self) c.args.link c.args.cache.now old step) (sym c.ended.ensures)
    (λ count. over_ended c.args.cache.now old count c.in_ok-held.held asked.0 asked.1 c.close.ensures.closed)

pub returns-in-Ended-clause-only : goal.returns-in-Ended-clause-only
returns-in-Ended-clause-only g c = Spares-trans c.next_pdu.ensures.only (Only-loud _ _ c.close.ensures.later c.close.ensures.closed c.close.ensures.standings)

pub returns-in-Lost-clause-steps : goal.returns-in-Lost-clause-steps
returns-in-Lost-clause-steps g c = λ used sent now.
    let old : Serving = record { used = used; sent = sent; taken = c.args.count.taken; answers = c.args.count.answers } in
    let asked = asked_lost _ c.args.link used sent c.in_ok-held.held c.in_ok-held.asked c.in-Lost.is (c.in_ok-held.ensures.answer used sent now) in
    subst (λ (step : Step). SteppedAs (g.K.Links.wire c.close-in-Lost.new.self) c.args.link c.args.cache.now old step) (sym c.ended-in-Lost.ensures)
    (λ count. over_failed c.args.cache.now old count c.in_ok-held.held asked.0 asked.1 c.close-in-Lost.ensures.closed)

pub returns-in-Lost-clause-only : goal.returns-in-Lost-clause-only
returns-in-Lost-clause-only g c = Spares-trans c.next_pdu.ensures.only (Only-loud _ _ c.close-in-Lost.ensures.later c.close-in-Lost.ensures.closed c.close-in-Lost.ensures.standings)

pub returns-in_err-held-clause-halts : goal.returns-in_err-held-clause-halts
returns-in_err-held-clause-halts g c = on_err c.from_residual.result c.next_pdu.ensures.keeps

pub returns-in-Refused-clause-halts : goal.returns-in-Refused-clause-halts
returns-in-Refused-clause-halts g c = err_map c.refuse.result (KeepsSent-trans c.next_pdu.ensures.keeps) c.refuse.ensures.halts

pub returns-in-Refused-clause-broke : goal.returns-in-Refused-clause-broke
returns-in-Refused-clause-broke g c = BreaksByFault-trans c.next_pdu.ensures.broke c.refuse.ensures.broke

pub returns-in-Ended-clause-broke : goal.returns-in-Ended-clause-broke
returns-in-Ended-clause-broke g c = BreaksByFault-trans c.next_pdu.ensures.broke (breaks_closed _ _ _ c.close.ensures.faults c.close.ensures.standings)

pub returns-in-Lost-clause-broke : goal.returns-in-Lost-clause-broke
returns-in-Lost-clause-broke g c = BreaksByFault-trans c.next_pdu.ensures.broke (breaks_closed _ _ _ c.close-in-Lost.ensures.faults c.close-in-Lost.ensures.standings)
