use Rattle.std.proofs.Common.{sym, subst, Option, List}
use Rattle.av_base.specs.Connections.{AddsAttempt, Attempt, Made, Unaccepted, new_standing}
use Rattle.connection_calls.proofs.ConnectionLemmas.{Now-map, Spares-refl}
use Rattle.connection_calls.proofs.FaultsLemmas.{BreaksByFault-refl, BreaksByFault-trans, breaks_failed, breaks_made}
use Rattle.connection_calls.proofs.GoingLemmas.{AddsAttempts-one, AddsAttempts-refl}
use Rattle.connection_calls.proofs.NewLemmas.{new_now, new_number, spares_connect, spares_same, usable_new}
use Rattle.rtr_server.proofs.OutcomesLemmas.{text_more, text_same}
use Rattle.rtr_server.proofs.RoutersLemmas.{halted_none, halted_router, halted_unreached, halted_unreported, spares_router, turned_failed, turned_served}
use Rattle.rtr_server.proofs.ServingLemmas.{on_err}
use Rattle.rtr_server.proofs.routers.serve_next.Goals as goal

-- ---- nothing was accepted yet

pub returns-in_err-pour-clause-halts : goal.returns-in_err-pour-clause-halts
returns-in_err-pour-clause-halts g c = on_err c.from_residual.result (halted_none _ _ c.args.service.cache.now c.args.service.place.now _ _ c.pour.ensures.same)

pub returns-in_err-pour-clause-attempts : goal.returns-in_err-pour-clause-attempts
returns-in_err-pour-clause-attempts g c = AddsAttempts-refl _ _

pub returns-in_err-pour-clause-others : goal.returns-in_err-pour-clause-others
returns-in_err-pour-clause-others g c = Spares-refl _ _ _

pub returns-in_err-pour-clause-broke : goal.returns-in_err-pour-clause-broke
returns-in_err-pour-clause-broke g c = BreaksByFault-refl _ _

-- ---- a router was

pub serve_router-requires : goal.serve_router-requires
serve_router-requires g c = usable_new (g.K.Links.standings c.args.links.now) (g.K.Links.standings c.accept.new.self) c.in-Ok.link c.in-Ok.ensures.number c.in-Ok.ensures.ok_standings

pub returns-in_err-outcome-in-Ok-clause-halts : goal.returns-in_err-outcome-in-Ok-clause-halts
returns-in_err-outcome-in-Ok-clause-halts g c =
    let adds = subst (λ (a : Option (List Attempt)). AddsAttempt (g.K.Links.attempts c.args.links.now) a (Made c.in-Ok.link)) (sym c.serve_router.ensures.attempts) c.in-Ok.ensures.made in
    let here = new_now _ _ (g.K.Links.standings c.args.links.now) c.args.service.place.now c.in-Ok.link c.in-Ok.ensures.ok (g.met.K.Links.agrees c.args.links.now) c.in-Ok.ensures.number in
    on_err c.from_residual-in_err-outcome-in-Ok.result
    (halted_router _ _ _ _ c.args.service.cache.now c.args.service.place.now c.in-Ok.link adds here c.serve_router.ensures.only.later
    (g.K.Links.standings c.serve_router.new.links) _ _ (g.met.K.Links.agrees c.serve_router.new.links) c.in_err-outcome-in-Ok.ensures.err_usable (c.in_err-outcome-in-Ok.ensures.halts (Now-map (λ t h. h.1) here)) c.pour.ensures.same)

pub returns-in_err-outcome-in-Ok-clause-attempts : goal.returns-in_err-outcome-in-Ok-clause-attempts
returns-in_err-outcome-in-Ok-clause-attempts g c =
    AddsAttempts-one (Made c.in-Ok.link) (new_number _ _ c.in-Ok.link (g.met.K.Links.agrees c.args.links.now) c.in-Ok.ensures.number)
    (subst (λ (a : Option (List Attempt)). AddsAttempt (g.K.Links.attempts c.args.links.now) a (Made c.in-Ok.link)) (sym c.serve_router.ensures.attempts) c.in-Ok.ensures.made)

pub returns-in_err-outcome-in-Ok-clause-others : goal.returns-in_err-outcome-in-Ok-clause-others
returns-in_err-outcome-in-Ok-clause-others g c =
    spares_router c.in-Ok.link c.in-Ok.ensures.number
    (spares_connect _ _ (g.K.Links.standings c.args.links.now) (g.K.Links.standings c.accept.new.self) c.args.service.place.now new_standing c.in-Ok.ensures.ok (g.met.K.Links.agrees c.args.links.now) c.in-Ok.ensures.ok_standings c.accept.ensures.later)
    c.serve_router.ensures.only

pub returns-in_err-outcome-in-Ok-clause-broke : goal.returns-in_err-outcome-in-Ok-clause-broke
returns-in_err-outcome-in-Ok-clause-broke g c = BreaksByFault-trans (breaks_made _ _ c.accept.ensures.cause.later c.in-Ok.ensures.ok_standings) c.serve_router.ensures.broke

-- ---- without its report

pub returns-in_err-put_outcome-in-Ok-clause-halts : goal.returns-in_err-put_outcome-in-Ok-clause-halts
returns-in_err-put_outcome-in-Ok-clause-halts g c =
    let adds = subst (λ (a : Option (List Attempt)). AddsAttempt (g.K.Links.attempts c.args.links.now) a (Made c.in-Ok.link)) (sym c.serve_router.ensures.attempts) c.in-Ok.ensures.made in
    let here = new_now _ _ (g.K.Links.standings c.args.links.now) c.args.service.place.now c.in-Ok.link c.in-Ok.ensures.ok (g.met.K.Links.agrees c.args.links.now) c.in-Ok.ensures.number in
    on_err c.from_residual-in_err-put_outcome-in-Ok.result
    (halted_unreported _ _ _ _ c.args.service.cache.now c.args.service.place.now c.in-Ok.link adds here c.serve_router.ensures.only.later
    c.in_ok-outcome-in-Ok.outcome _ _ (c.in_ok-outcome-in-Ok.ensures.serves (Now-map (λ t h. h.1) here))
    (text_same _ _ _ _ _ c.pour.ensures.same c.in_err-put_outcome-in-Ok.ensures.err))

pub returns-in_err-put_outcome-in-Ok-clause-attempts : goal.returns-in_err-put_outcome-in-Ok-clause-attempts
returns-in_err-put_outcome-in-Ok-clause-attempts g c =
    AddsAttempts-one (Made c.in-Ok.link) (new_number _ _ c.in-Ok.link (g.met.K.Links.agrees c.args.links.now) c.in-Ok.ensures.number)
    (subst (λ (a : Option (List Attempt)). AddsAttempt (g.K.Links.attempts c.args.links.now) a (Made c.in-Ok.link)) (sym c.serve_router.ensures.attempts) c.in-Ok.ensures.made)

pub returns-in_err-put_outcome-in-Ok-clause-others : goal.returns-in_err-put_outcome-in-Ok-clause-others
returns-in_err-put_outcome-in-Ok-clause-others g c =
    spares_router c.in-Ok.link c.in-Ok.ensures.number
    (spares_connect _ _ (g.K.Links.standings c.args.links.now) (g.K.Links.standings c.accept.new.self) c.args.service.place.now new_standing c.in-Ok.ensures.ok (g.met.K.Links.agrees c.args.links.now) c.in-Ok.ensures.ok_standings c.accept.ensures.later)
    c.serve_router.ensures.only

pub returns-in_err-put_outcome-in-Ok-clause-broke : goal.returns-in_err-put_outcome-in-Ok-clause-broke
returns-in_err-put_outcome-in-Ok-clause-broke g c = BreaksByFault-trans (breaks_made _ _ c.accept.ensures.cause.later c.in-Ok.ensures.ok_standings) c.serve_router.ensures.broke

-- ---- and with it

pub returns-in_ok-put_outcome-in-Ok-clause-serves : goal.returns-in_ok-put_outcome-in-Ok-clause-serves
returns-in_ok-put_outcome-in-Ok-clause-serves g c =
    let adds = subst (λ (a : Option (List Attempt)). AddsAttempt (g.K.Links.attempts c.args.links.now) a (Made c.in-Ok.link)) (sym c.serve_router.ensures.attempts) c.in-Ok.ensures.made in
    let here = new_now _ _ (g.K.Links.standings c.args.links.now) c.args.service.place.now c.in-Ok.link c.in-Ok.ensures.ok (g.met.K.Links.agrees c.args.links.now) c.in-Ok.ensures.number in
    turned_served _ _ _ _ c.args.service.cache.now c.args.service.place.now c.in-Ok.link adds here c.serve_router.ensures.only.later
    c.args.service.line c.in_ok-outcome-in-Ok.outcome _ _ (c.in_ok-outcome-in-Ok.ensures.serves (Now-map (λ t h. h.1) here))
    (text_more _ _ _ _ _ _ c.pour.ensures.same c.in_ok-put_outcome-in-Ok.ensures.ok)

pub returns-in_ok-put_outcome-in-Ok-clause-attempts : goal.returns-in_ok-put_outcome-in-Ok-clause-attempts
returns-in_ok-put_outcome-in-Ok-clause-attempts g c =
    AddsAttempts-one (Made c.in-Ok.link) (new_number _ _ c.in-Ok.link (g.met.K.Links.agrees c.args.links.now) c.in-Ok.ensures.number)
    (subst (λ (a : Option (List Attempt)). AddsAttempt (g.K.Links.attempts c.args.links.now) a (Made c.in-Ok.link)) (sym c.serve_router.ensures.attempts) c.in-Ok.ensures.made)

pub returns-in_ok-put_outcome-in-Ok-clause-others : goal.returns-in_ok-put_outcome-in-Ok-clause-others
returns-in_ok-put_outcome-in-Ok-clause-others g c =
    spares_router c.in-Ok.link c.in-Ok.ensures.number
    (spares_connect _ _ (g.K.Links.standings c.args.links.now) (g.K.Links.standings c.accept.new.self) c.args.service.place.now new_standing c.in-Ok.ensures.ok (g.met.K.Links.agrees c.args.links.now) c.in-Ok.ensures.ok_standings c.accept.ensures.later)
    c.serve_router.ensures.only

pub returns-in_ok-put_outcome-in-Ok-clause-broke : goal.returns-in_ok-put_outcome-in-Ok-clause-broke
returns-in_ok-put_outcome-in-Ok-clause-broke g c = BreaksByFault-trans (breaks_made _ _ c.accept.ensures.cause.later c.in-Ok.ensures.ok_standings) c.serve_router.ensures.broke

-- ---- none came

pub returns-in_err-put_feed-in-Err-clause-halts : goal.returns-in_err-put_feed-in-Err-clause-halts
returns-in_err-put_feed-in-Err-clause-halts g c =
    on_err c.from_residual-in_err-put_feed-in-Err.result
    (halted_unreached _ _ _ c.args.service.cache.now c.args.service.place.now c.in-Err.ensures.failed _ _ (text_same _ _ _ _ _ c.pour.ensures.same c.in_err-put_feed-in-Err.ensures.err))

pub returns-in_err-put_feed-in-Err-clause-attempts : goal.returns-in_err-put_feed-in-Err-clause-attempts
returns-in_err-put_feed-in-Err-clause-attempts g c = AddsAttempts-one (Unaccepted c.args.service.place.now) (λ links told. tt) c.in-Err.ensures.failed

pub returns-in_err-put_feed-in-Err-clause-others : goal.returns-in_err-put_feed-in-Err-clause-others
returns-in_err-put_feed-in-Err-clause-others g c = spares_same _ _ _ _ _ c.accept.ensures.later c.in-Err.ensures.err c.in-Err.ensures.err_standings

pub returns-in_err-put_feed-in-Err-clause-broke : goal.returns-in_err-put_feed-in-Err-clause-broke
returns-in_err-put_feed-in-Err-clause-broke g c = breaks_failed _ _ c.accept.ensures.cause.later c.in-Err.ensures.cause.failed

pub returns-in_ok-put_feed-in-Err-clause-serves : goal.returns-in_ok-put_feed-in-Err-clause-serves
returns-in_ok-put_feed-in-Err-clause-serves g c =
    turned_failed _ _ _ c.args.service.cache.now c.args.service.place.now c.in-Err.ensures.failed c.args.service.line _ _
    (text_more _ _ _ _ _ _ c.pour.ensures.same (rw (sym c.requires) c.in_ok-put_feed-in-Err.ensures.ok))

pub returns-in_ok-put_feed-in-Err-clause-attempts : goal.returns-in_ok-put_feed-in-Err-clause-attempts
returns-in_ok-put_feed-in-Err-clause-attempts g c = AddsAttempts-one (Unaccepted c.args.service.place.now) (λ links told. tt) c.in-Err.ensures.failed

pub returns-in_ok-put_feed-in-Err-clause-others : goal.returns-in_ok-put_feed-in-Err-clause-others
returns-in_ok-put_feed-in-Err-clause-others g c = spares_same _ _ _ _ _ c.accept.ensures.later c.in-Err.ensures.err c.in-Err.ensures.err_standings

pub returns-in_ok-put_feed-in-Err-clause-broke : goal.returns-in_ok-put_feed-in-Err-clause-broke
returns-in_ok-put_feed-in-Err-clause-broke g c = breaks_failed _ _ c.accept.ensures.cause.later c.in-Err.ensures.cause.failed
