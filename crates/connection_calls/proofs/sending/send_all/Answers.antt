use Rattle.std.proofs.Common.{◌≡◌, ◌<◌, length, refl, ◌∙◌, arith}
use Rattle.std.proofs.lemmas.Grind.{common_steps}
use Rattle.av_base.specs.declared.standing.Break.TheVariants.{BySend}
use Rattle.connection_calls.proofs.ConnectionLemmas.{Spares-refl, Spares-trans, Only-quiet, Only-loud, open_broken, Sending-start, Sending-more, Sending-part, Sending-all}
use Rattle.connection_calls.proofs.FaultsLemmas.{BreaksByFault-refl, BreaksByFault-trans, breaks_failed, breaks_none}
use Rattle.connection_calls.proofs.sending.send_all.Goals as goal

pub loop-rest-init : goal.loop-rest-init
loop-rest-init g c = record { so_far = Sending-start _ _ _; usable = c.requires; only = Spares-refl _ _ _; attempts = refl; broke = BreaksByFault-refl _ _ }

pub loop-rest-preserved : goal.loop-rest-preserved
loop-rest-preserved g c = record {
  so_far = rw c.split_at.ensures.back (Sending-more c.loop-rest.invariant.so_far c.in-Ok.count c.in-Ok.ensures.sent);
  usable = rw c.in-Ok.ensures.ok_standings c.loop-rest.invariant.usable;
  only = Spares-trans c.loop-rest.invariant.only (Only-quiet _ c.send.ensures.later c.in-Ok.ensures.sent c.in-Ok.ensures.ok_standings);
  attempts = c.send.ensures.attempts ∙ c.loop-rest.invariant.attempts;
  broke = BreaksByFault-trans c.loop-rest.invariant.broke (breaks_none _ _ c.send.ensures.cause.later c.in-Ok.ensures.ok_standings);
}

pub returns-in-Err-clause-sends : goal.returns-in-Err-clause-sends
returns-in-Err-clause-sends g c = let more : 0 < length c.loop-rest.rest.now = grind (arith, common_steps) in Sending-part c.loop-rest.invariant.so_far more c.in-Err.ensures.err

pub returns-in-Err-clause-still_open : goal.returns-in-Err-clause-still_open
returns-in-Err-clause-still_open g c = open_broken _ _ c.args.link BySend c.loop-rest.invariant.usable c.in-Err.ensures.err_standings

pub returns-in-Err-clause-only : goal.returns-in-Err-clause-only
returns-in-Err-clause-only g c = Spares-trans c.loop-rest.invariant.only (Only-loud _ _ c.send.ensures.later c.in-Err.ensures.err c.in-Err.ensures.err_standings)

pub returns-clause-sends : goal.returns-clause-sends
returns-clause-sends g c = let none : length c.loop-rest.rest.now ≡ 0 = grind (arith, common_steps) in Sending-all c.loop-rest.invariant.so_far none

pub returns-in-Err-clause-broke : goal.returns-in-Err-clause-broke
returns-in-Err-clause-broke g c = BreaksByFault-trans c.loop-rest.invariant.broke (breaks_failed _ _ c.send.ensures.cause.later c.in-Err.ensures.cause.failed)
