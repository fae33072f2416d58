use Rattle.std.proofs.Common.{Bool, true, false, List, ◌++◌, ap, sym, subst, ◌+◌, ℕ}
use Rattle.rtr_server.specs.declared.serving.Step.{Step}
use Rattle.connection_calls.specs.Moves.{SendsOrCloses}
use Rattle.rtr_server.specs.Serving.{Serving}
use Rattle.rtr_server.specs.Steps.{SteppedAs}
use Rattle.connection_calls.proofs.ConnectionLemmas.{Spares-trans}
use Rattle.rtr_server.proofs.ServingLemmas.{over_lost}
use Rattle.connection_calls.proofs.FaultsLemmas.{BreaksByFault-trans}
use Rattle.rtr_server.proofs.serving.answer.Goals as goal

pub returns-then-send_or_close-clause-steps : goal.returns-then-send_or_close-clause-steps
returns-then-send_or_close-clause-steps g c = λ cache used sent bytes pdu taken replies frame now.
    c.after_reply.ensures.steps cache used sent bytes c.args.reply.now.items pdu taken c.args.answers replies frame
    (ap (λ n. c.args.answers + n) (c.answers_in.ensures.exact cache pdu replies))
    (subst (λ (l : List ℕ). SendsOrCloses (g.K.Links.wire c.send_or_close.new.links) c.args.link (used ++ bytes ++ c.args.framer) sent l true) c.as_slice.ensures.value (subst (λ (w : Bool). SendsOrCloses (g.K.Links.wire c.send_or_close.new.links) c.args.link (used ++ bytes ++ c.args.framer) sent c.as_slice.result.now w) c.if-send_or_close.true (c.send_or_close.ensures.sends (used ++ bytes ++ c.args.framer) sent now)))

pub returns-then-send_or_close-clause-only : goal.returns-then-send_or_close-clause-only
returns-then-send_or_close-clause-only g c = Spares-trans c.send_or_close.ensures.only c.after_reply.ensures.only

pub returns-clause-steps : goal.returns-clause-steps
returns-clause-steps g c = λ cache used sent bytes pdu taken replies frame now.
    let old : Serving = record { used = used; sent = sent; taken = taken; answers = c.args.answers } in
    subst (λ (step : Step). SteppedAs (g.K.Links.wire c.send_or_close.new.links) c.args.link cache old step) (sym c.ended.ensures)
    (λ count. over_lost cache old count c.args.framer bytes c.args.reply.now.items pdu c.args.turn replies frame
    (subst (λ (l : List ℕ). SendsOrCloses (g.K.Links.wire c.send_or_close.new.links) c.args.link (used ++ bytes ++ c.args.framer) sent l false) c.as_slice.ensures.value (subst (λ (w : Bool). SendsOrCloses (g.K.Links.wire c.send_or_close.new.links) c.args.link (used ++ bytes ++ c.args.framer) sent c.as_slice.result.now w) c.if-send_or_close.false (c.send_or_close.ensures.sends (used ++ bytes ++ c.args.framer) sent now))))

pub returns-then-send_or_close-clause-broke : goal.returns-then-send_or_close-clause-broke
returns-then-send_or_close-clause-broke g c = BreaksByFault-trans c.send_or_close.ensures.broke c.after_reply.ensures.broke
