use Rattle.std.proofs.Common.{refl, subst, ◌∙◌, arith}
use Rattle.rtr_server.specs.declared.serving.Step.{Step}
use Rattle.rtr_server.specs.Steps.{StandsUsable}
use Rattle.connection_calls.proofs.ConnectionLemmas.{Only-loud, Spares-refl, Spares-trans}
use Rattle.rtr_server.proofs.ServingLemmas.{halted, on_err, on_stepped, over_stepped, so_far_next, so_far_over, so_far_short, so_far_start}
use Rattle.connection_calls.proofs.FaultsLemmas.{BreaksByFault-refl, BreaksByFault-trans, breaks_closed}
use Rattle.rtr_server.proofs.serving.serve_router.Goals as goal

pub loop-taken-init : goal.loop-taken-init
loop-taken-init g c = record {
  so_far = λ now. so_far_start _ c.args.link c.args.cache.now c.new-framer.result c.new-framer.ensures now;
  few = omega arith;
  usable = c.requires;
  only = Spares-refl _ _ _;
  attempts = refl;
  broke = BreaksByFault-refl _ _;
}

pub returns-in_err-step-clause-only : goal.returns-in_err-step-clause-only
returns-in_err-step-clause-only g c = Spares-trans c.loop-taken.invariant.only c.serve_pdu.ensures.only

pub returns-in-Over-clause-serves : goal.returns-in-Over-clause-serves
returns-in-Over-clause-serves g c = λ now.
    let so_far = c.loop-taken.invariant.so_far now in
    so_far_over so_far (omega (arith, c.loop-taken-test.true)) c.serve_pdu.ensures.only.later
    (over_stepped _ c.args.link c.args.cache.now (record { used = so_far.used; sent = so_far.sent; taken = c.loop-taken.taken; answers = c.loop-taken.answers }) c.in_ok-step.step c.in-Over.outcome c.in-Over.is (c.in_ok-step.ensures.steps so_far.used so_far.sent so_far.now))

pub returns-in-Over-clause-only : goal.returns-in-Over-clause-only
returns-in-Over-clause-only g c = Spares-trans c.loop-taken.invariant.only c.serve_pdu.ensures.only

pub loop-taken-preserved : goal.loop-taken-preserved
loop-taken-preserved g c =
    let stands = subst (λ (s : Step). StandsUsable (g.K.Links.standings c.serve_pdu.new.links) c.args.link c.loop-taken.answers s) c.in-On.is c.in_ok-step.ensures.usable in
    record {
      so_far = λ now.
          let so_far = c.loop-taken.invariant.so_far now in
          so_far_next so_far (omega (arith, c.loop-taken-test.true)) c.serve_pdu.ensures.only.later
          (on_stepped _ c.args.link c.args.cache.now (record { used = so_far.used; sent = so_far.sent; taken = c.loop-taken.taken; answers = c.loop-taken.answers }) c.in_ok-step.step c.in-On.held c.in-On.more c.in-On.is (c.in_ok-step.ensures.steps so_far.used so_far.sent so_far.now));
      few = omega (arith, stands.1, c.loop-taken.invariant.few);
      usable = stands.0;
      only = Spares-trans c.loop-taken.invariant.only c.serve_pdu.ensures.only;
      attempts = c.serve_pdu.ensures.attempts ∙ c.loop-taken.invariant.attempts;
      broke = BreaksByFault-trans c.loop-taken.invariant.broke c.serve_pdu.ensures.broke;
    }

pub returns-clause-serves : goal.returns-clause-serves
returns-clause-serves g c = λ now. so_far_short (c.loop-taken.invariant.so_far now) (g.K.Links.standings c.loop-taken.links) (g.met.K.Links.agrees c.loop-taken.links) c.loop-taken.invariant.usable (omega (arith, c.loop-taken-test.false, c.loop-taken.auto.taken-end)) c.close.ensures.later c.close.ensures.closed

pub returns-clause-only : goal.returns-clause-only
returns-clause-only g c = Spares-trans c.loop-taken.invariant.only (Only-loud _ _ c.close.ensures.later c.close.ensures.closed c.close.ensures.standings)

pub returns-in_err-step-clause-halts : goal.returns-in_err-step-clause-halts
returns-in_err-step-clause-halts g c = on_err c.from_residual.result (λ now. halted (c.loop-taken.invariant.so_far now) (omega (arith, c.loop-taken-test.true)) c.serve_pdu.ensures.only.later c.in_err-step.ensures.halts)

pub returns-in_err-step-clause-broke : goal.returns-in_err-step-clause-broke
returns-in_err-step-clause-broke g c = BreaksByFault-trans c.loop-taken.invariant.broke c.serve_pdu.ensures.broke

pub returns-in-Over-clause-broke : goal.returns-in-Over-clause-broke
returns-in-Over-clause-broke g c = BreaksByFault-trans c.loop-taken.invariant.broke c.serve_pdu.ensures.broke

pub returns-clause-broke : goal.returns-clause-broke
returns-clause-broke g c = BreaksByFault-trans c.loop-taken.invariant.broke (breaks_closed _ _ _ c.close.ensures.faults c.close.ensures.standings)
