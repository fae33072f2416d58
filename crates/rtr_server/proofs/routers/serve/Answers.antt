use Rattle.std.proofs.Common.{◌≤◌, refl, subst, arith, Option}
use Rattle.std.specs.Prelude.{IfSome}
use Rattle.std.specs.Io.KnownBytes.{append_known}
use Rattle.av_base.proofs.LaterLemmas.{ToldLater-refl}
use Rattle.av_base.proofs.PouringLemmas.{Grows-refl, Grows-trans}
use Rattle.connection_calls.proofs.ConnectionLemmas.{Spares-refl}
use Rattle.connection_calls.proofs.FaultsLemmas.{BreaksByFault-refl, BreaksByFault-trans, sooner}
use Rattle.connection_calls.proofs.GoingLemmas.{AddsAttempts-refl, AddsAttempts-trans}
use Rattle.rtr_server.specs.declared.outcome.Outcome.{Outcome}
use Rattle.rtr_server.specs.Steps.{TurnedAs}
use Rattle.rtr_server.proofs.RoutersLemmas.{halted_none, served_all, served_failed, served_halted, so_far_next, so_far_start, spares_more, still_long}
use Rattle.rtr_server.proofs.ServingLemmas.{on_err}
use Rattle.rtr_server.proofs.routers.serve.Goals as goal

pub loop-accepted-init : goal.loop-accepted-init
loop-accepted-init g c = record {
  so_far = so_far_start _ _ c.args.service.cache.now c.args.service.line c.args.service.place.now _;
  few_answers = omega arith;
  few_lines = omega arith;
  attempts = AddsAttempts-refl _ _;
  others = Spares-refl _ _ _;
  broke = BreaksByFault-refl _ _;
  longer = omega arith;
  sink_faults = omega arith;
  grows = Grows-refl _;
}

pub loop-accepted-preserved : goal.loop-accepted-preserved
loop-accepted-preserved g c =
    let turned = subst (λ (found : Option Outcome). TurnedAs (g.K.Links.attempts c.loop-accepted.links) (g.K.Links.attempts c.serve_next.new.links) (g.K.Links.wire c.serve_next.new.links) c.args.service.cache.now c.args.service.line c.args.service.place.now found
    (append_known (g.W.Sink.written c.loop-accepted.out) c.loop-accepted.text.items) (append_known (g.W.Sink.written c.serve_next.new.out) c.serve_next.new.text.items)) c.in-Some.is c.in_ok-found.ensures.serves in
    let few = subst (λ (found : Option Outcome). IfSome found (λ outcome. outcome.answers ≤ 65536)) c.in-Some.is c.in_ok-found.ensures.few in
    let others = spares_more c.loop-accepted.invariant.others c.loop-accepted.invariant.longer c.serve_next.ensures.others in
    record {
      so_far = rw c.count_lines-refused.ensures.exact
          (so_far_next _ _ _ _ _ c.args.service.cache.now c.args.service.line c.args.service.place.now c.loop-accepted.accepted c.loop-accepted.answers c.loop-accepted.refused _ _ _ c.loop-accepted.invariant.so_far c.serve_next.ensures.attempts c.serve_next.ensures.others.later
          c.in-Some.outcome turned);
      few_answers = omega (arith, c.loop-accepted.invariant.few_answers, few);
      few_lines = omega (arith, c.loop-accepted.invariant.few_lines, c.count_lines-refused.ensures.most);
      attempts = AddsAttempts-trans c.loop-accepted.invariant.others.later c.loop-accepted.invariant.attempts c.serve_next.ensures.attempts;
      others = others;
      broke = BreaksByFault-trans c.loop-accepted.invariant.broke c.serve_next.ensures.broke;
      longer = still_long (g.K.Links.standings c.args.links.now) (g.K.Links.standings c.serve_next.new.links) others;
      sink_faults = omega (arith, c.loop-accepted.invariant.sink_faults, c.serve_next.ensures.sink_faults);
      grows = Grows-trans c.loop-accepted.invariant.grows c.serve_next.ensures.grows;
    }

-- ---- none is accepted any more

pub returns-in-None-clause-serves : goal.returns-in-None-clause-serves
returns-in-None-clause-serves g c =
    let turned = subst (λ (found : Option Outcome). TurnedAs (g.K.Links.attempts c.loop-accepted.links) (g.K.Links.attempts c.serve_next.new.links) (g.K.Links.wire c.serve_next.new.links) c.args.service.cache.now c.args.service.line c.args.service.place.now found
    (append_known (g.W.Sink.written c.loop-accepted.out) c.loop-accepted.text.items) (append_known (g.W.Sink.written c.serve_next.new.out) c.serve_next.new.text.items)) c.in-None.is c.in_ok-found.ensures.serves in
    served_failed _ _ _ _ _ c.args.service.cache.now c.args.service.line c.args.service.place.now c.loop-accepted.accepted c.loop-accepted.answers c.loop-accepted.refused _ _ _ c.loop-accepted.invariant.so_far c.serve_next.ensures.attempts c.serve_next.ensures.others.later
    c.args.count _ turned (omega (arith, c.loop-accepted-test.true)) refl

pub returns-in-None-clause-few : goal.returns-in-None-clause-few
returns-in-None-clause-few g c = omega (arith, c.loop-accepted.invariant.few_lines, c.loop-accepted-test.true)

pub returns-in-None-clause-attempts : goal.returns-in-None-clause-attempts
returns-in-None-clause-attempts g c = AddsAttempts-trans c.loop-accepted.invariant.others.later c.loop-accepted.invariant.attempts c.serve_next.ensures.attempts

pub returns-in-None-clause-others : goal.returns-in-None-clause-others
returns-in-None-clause-others g c = spares_more c.loop-accepted.invariant.others c.loop-accepted.invariant.longer c.serve_next.ensures.others

pub returns-in-None-clause-broke : goal.returns-in-None-clause-broke
returns-in-None-clause-broke g c = BreaksByFault-trans c.loop-accepted.invariant.broke c.serve_next.ensures.broke

pub returns-in-None-clause-unreachable : goal.returns-in-None-clause-unreachable
returns-in-None-clause-unreachable g c = λ failed. sooner _ _ _ c.loop-accepted.invariant.broke.later (c.in_ok-found.ensures.unreachable c.in-None.is)

pub returns-in-None-clause-grows : goal.returns-in-None-clause-grows
returns-in-None-clause-grows g c = Grows-trans c.loop-accepted.invariant.grows c.serve_next.ensures.grows

-- ---- it ended early

pub returns-in_err-name-clause-halts : goal.returns-in_err-name-clause-halts
returns-in_err-name-clause-halts g c =
    on_err c.from_residual.result
    (served_halted _ _ _ _ _ c.args.service.cache.now c.args.service.line c.args.service.place.now 0 0 0 _ _ _ (so_far_start _ _ c.args.service.cache.now c.args.service.line c.args.service.place.now _) (AddsAttempts-refl _ _) (ToldLater-refl _)
    c.args.count (omega arith) (halted_none _ _ c.args.service.cache.now c.args.service.place.now _ _ refl))

pub returns-in_err-name-clause-attempts : goal.returns-in_err-name-clause-attempts
returns-in_err-name-clause-attempts g c = AddsAttempts-refl _ _

pub returns-in_err-name-clause-others : goal.returns-in_err-name-clause-others
returns-in_err-name-clause-others g c = Spares-refl _ _ _

pub returns-in_err-name-clause-broke : goal.returns-in_err-name-clause-broke
returns-in_err-name-clause-broke g c = BreaksByFault-refl _ _

pub returns-in_err-name-clause-grows : goal.returns-in_err-name-clause-grows
returns-in_err-name-clause-grows g c = Grows-refl _

pub returns-in_err-found-clause-halts : goal.returns-in_err-found-clause-halts
returns-in_err-found-clause-halts g c =
    on_err c.from_residual-in_err-found.result
    (served_halted _ _ _ _ _ c.args.service.cache.now c.args.service.line c.args.service.place.now c.loop-accepted.accepted c.loop-accepted.answers c.loop-accepted.refused _ _ _ c.loop-accepted.invariant.so_far c.serve_next.ensures.attempts c.serve_next.ensures.others.later
    c.args.count (omega (arith, c.loop-accepted-test.true)) c.in_err-found.ensures.halts)

pub returns-in_err-found-clause-attempts : goal.returns-in_err-found-clause-attempts
returns-in_err-found-clause-attempts g c = AddsAttempts-trans c.loop-accepted.invariant.others.later c.loop-accepted.invariant.attempts c.serve_next.ensures.attempts

pub returns-in_err-found-clause-others : goal.returns-in_err-found-clause-others
returns-in_err-found-clause-others g c = spares_more c.loop-accepted.invariant.others c.loop-accepted.invariant.longer c.serve_next.ensures.others

pub returns-in_err-found-clause-broke : goal.returns-in_err-found-clause-broke
returns-in_err-found-clause-broke g c = BreaksByFault-trans c.loop-accepted.invariant.broke c.serve_next.ensures.broke

pub returns-in_err-found-clause-grows : goal.returns-in_err-found-clause-grows
returns-in_err-found-clause-grows g c = Grows-trans c.loop-accepted.invariant.grows c.serve_next.ensures.grows

-- ---- there were as many as were asked for

pub returns-clause-serves : goal.returns-clause-serves
returns-clause-serves g c =
    served_all _ _ _ c.args.service.cache.now c.args.service.line c.args.service.place.now c.loop-accepted.accepted c.loop-accepted.answers c.loop-accepted.refused _ _ c.loop-accepted.invariant.so_far c.args.count _
    (omega (arith, c.loop-accepted-test.false, c.loop-accepted.auto.accepted-end)) refl

pub returns-clause-few : goal.returns-clause-few
returns-clause-few g c = omega (arith, c.loop-accepted.invariant.few_lines, c.loop-accepted-test.false, c.loop-accepted.auto.accepted-end)
