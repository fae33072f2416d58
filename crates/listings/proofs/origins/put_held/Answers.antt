use Rattle.std.proofs.Common.{refl, subst, arith, ◌∙◌}
use Rattle.std.specs.Io.KnownBytes.{append_known}
use Rattle.av_base.proofs.PouringLemmas.{Grows-refl, Grows-trans}
use Rattle.origin_model.specs.Current.{Parts}
use Rattle.origin_model.specs.OriginState.{IsStateOf}
use Rattle.rib_store.specs.Trails.{trails_left}
use Rattle.listings.proofs.OriginsLemmas.{lists_next, lists_start}
use Rattle.listings.proofs.origins.put_held.Goals as goal

pub loop-key-init : goal.loop-key-init
loop-key-init g c = record {
  so_far = lists_start c.args.origins.now (trails_left c.args.left.now) (append_known (g.W.Sink.written c.args.out.now) c.args.text.now.items);
  walk = c.walk-walk.ensures;
  grows = Grows-refl (g.W.Sink.written c.args.out.now);
  sink_faults = omega arith;
}

pub loop-key-preserved : goal.loop-key-preserved
loop-key-preserved g c = record {
  so_far = lists_next c.args.origins.now _ _ _ (trails_left c.args.left.now) (trails_left c.loop-key.left) (trails_left c.next.new.self) c.in-Some.key c.in-Some.trail.now c.in-Some-held.state
      (g.W.Sink.written c.loop-key.out) _ _ c.loop-key.invariant.so_far c.in-Some.ensures.steps
      (subst (λ (parts : Parts). IsStateOf parts c.in-Some.key c.in-Some.trail.now c.in-Some-held.state) c.loop-key.invariant.walk (rw c.origin_of-origin.ensures at c.in-Some-held.ensures.state)) refl
      c.in_ok-put_origin.ensures.ok c.pour_piece.ensures.same;
  walk = c.in-Some-held.ensures.same ∙ c.loop-key.invariant.walk;
  grows = Grows-trans c.loop-key.invariant.grows c.pour_piece.ensures.grows;
  sink_faults = omega (arith, c.loop-key.invariant.sink_faults, c.pour_piece.ensures.cause.later);
}

pub returns-in_err-pour_piece-clause-front : goal.returns-in_err-pour_piece-clause-front
returns-in_err-pour_piece-clause-front g c = record {
  rest = trails_left c.next.new.self;
  before = lists_next c.args.origins.now _ _ _ (trails_left c.args.left.now) (trails_left c.loop-key.left) (trails_left c.next.new.self) c.in-Some.key c.in-Some.trail.now c.in-Some-held.state
      (g.W.Sink.written c.loop-key.out) _ _ c.loop-key.invariant.so_far c.in-Some.ensures.steps
      (subst (λ (parts : Parts). IsStateOf parts c.in-Some.key c.in-Some.trail.now c.in-Some-held.state) c.loop-key.invariant.walk (rw c.origin_of-origin.ensures at c.in-Some-held.ensures.state)) refl
      c.in_ok-put_origin.ensures.ok c.pour_piece.ensures.same;
}

pub returns-in_err-pour_piece-clause-grows : goal.returns-in_err-pour_piece-clause-grows
returns-in_err-pour_piece-clause-grows g c = Grows-trans c.loop-key.invariant.grows c.pour_piece.ensures.grows
