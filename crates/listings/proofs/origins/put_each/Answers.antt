use Rattle.std.proofs.Common.{ℕ, List, refl, sym, subst, arith, ◌∙◌}
use Rattle.std.specs.Io.KnownBytes.{append_known}
use Rattle.std.specs.declared.option.Option.{Option}
use Rattle.av_base.proofs.PouringLemmas.{Grows-refl, Grows-trans}
use Rattle.path_model.specs.declared.key.Key.{Key}
use Rattle.rib_store.specs.Trails.{trails_left}
use Rattle.listings.specs.EachOrigin.{ListsFirst, ListsUpTo, ListsUpToOne}
use Rattle.listings.proofs.OriginsLemmas.{all_then, first_all, first_then, first_up_to, lists_one, lists_start}
use Rattle.listings.proofs.origins.put_each.Goals as goal

pub loop-key-init : goal.loop-key-init
loop-key-init g c = record {
  so_far = lists_start c.args.origins.now (trails_left c.args.trails) (append_known (g.W.Sink.written c.args.out.now) c.args.text.now.items);
  same = refl;
  grows = Grows-refl (g.W.Sink.written c.args.out.now);
  sink_faults = omega arith;
}

pub loop-key-preserved : goal.loop-key-preserved
loop-key-preserved g c =
    let up_to : ListsUpToOne (c.in-Some.key, c.in-Some.origin) c.loop-key.origins (trails_left c.loop-key.left) (trails_left c.put_held.new.left) (append_known (g.W.Sink.written c.loop-key.out) c.loop-key.text.items)
    (append_known (g.W.Sink.written c.put_held.new.out) c.put_held.new.text.items) =
    subst (λ (o : Option (Key × Option ℕ)). ListsUpTo o c.loop-key.origins (trails_left c.loop-key.left) (trails_left c.put_held.new.left) (append_known (g.W.Sink.written c.loop-key.out) c.loop-key.text.items) (append_known (g.W.Sink.written c.put_held.new.out) c.put_held.new.text.items))
    c.in-Some.is c.in_ok-key.ensures.before in
    record {
      so_far = lists_one c.args.origins.now c.loop-key.origins (append_known (g.W.Sink.written c.args.out.now) c.args.text.now.items)
          (append_known (g.W.Sink.written c.loop-key.out) c.loop-key.text.items)
          (append_known (g.W.Sink.written c.put_held.new.out) c.put_held.new.text.items) (append_known (g.W.Sink.written c.pour_piece.new.out) c.pour_piece.new.text.items)
          (trails_left c.args.trails) (trails_left c.loop-key.left) (trails_left c.put_held.new.left) (c.in-Some.key, c.in-Some.origin) c.in_ok-state.state
          (g.W.Sink.written c.put_held.new.out) c.put_held.new.text.items c.put_origin.new.out.items c.loop-key.invariant.so_far c.loop-key.invariant.same up_to c.in_ok-state.ensures.state refl
          c.in_ok-put_origin.ensures.ok c.pour_piece.ensures.same;
      same = c.in_ok-state.ensures.same ∙ c.loop-key.invariant.same;
      grows = Grows-trans (Grows-trans c.loop-key.invariant.grows c.put_held.ensures.grows) c.pour_piece.ensures.grows;
      sink_faults = omega (arith, c.loop-key.invariant.sink_faults, c.put_held.ensures.sink_faults, c.pour_piece.ensures.cause.later);
    }

pub returns-in_err-key-clause-front : goal.returns-in_err-key-clause-front
returns-in_err-key-clause-front g c =
    first_then c.args.origins.now c.loop-key.origins (append_known (g.W.Sink.written c.args.out.now) c.args.text.now.items) (append_known (g.W.Sink.written c.loop-key.out) c.loop-key.text.items)
    (append_known (g.W.Sink.written c.put_held.new.out) c.put_held.new.text.items) (trails_left c.args.trails) (trails_left c.loop-key.left)
    c.loop-key.invariant.so_far c.loop-key.invariant.same c.put_held.ensures.front

pub returns-in_err-key-clause-grows : goal.returns-in_err-key-clause-grows
returns-in_err-key-clause-grows g c = Grows-trans c.loop-key.invariant.grows c.put_held.ensures.grows

pub returns-in_err-state-clause-front : goal.returns-in_err-state-clause-front
returns-in_err-state-clause-front g c =
    let up_to : ListsUpToOne (c.in-Some.key, c.in-Some.origin) c.loop-key.origins (trails_left c.loop-key.left) (trails_left c.put_held.new.left) (append_known (g.W.Sink.written c.loop-key.out) c.loop-key.text.items)
    (append_known (g.W.Sink.written c.put_held.new.out) c.put_held.new.text.items) =
    subst (λ (o : Option (Key × Option ℕ)). ListsUpTo o c.loop-key.origins (trails_left c.loop-key.left) (trails_left c.put_held.new.left) (append_known (g.W.Sink.written c.loop-key.out) c.loop-key.text.items) (append_known (g.W.Sink.written c.put_held.new.out) c.put_held.new.text.items))
    c.in-Some.is c.in_ok-key.ensures.before in
    first_up_to c.args.origins.now c.loop-key.origins (append_known (g.W.Sink.written c.args.out.now) c.args.text.now.items) (append_known (g.W.Sink.written c.loop-key.out) c.loop-key.text.items)
    (append_known (g.W.Sink.written c.put_held.new.out) c.put_held.new.text.items) (trails_left c.args.trails) (trails_left c.loop-key.left) (trails_left c.put_held.new.left)
    (c.in-Some.key, c.in-Some.origin) c.loop-key.invariant.so_far c.loop-key.invariant.same up_to

pub returns-in_err-state-clause-grows : goal.returns-in_err-state-clause-grows
returns-in_err-state-clause-grows g c = Grows-trans c.loop-key.invariant.grows c.put_held.ensures.grows

pub returns-in_err-put_origin-clause-front : goal.returns-in_err-put_origin-clause-front
returns-in_err-put_origin-clause-front g c =
    let up_to : ListsUpToOne (c.in-Some.key, c.in-Some.origin) c.loop-key.origins (trails_left c.loop-key.left) (trails_left c.put_held.new.left) (append_known (g.W.Sink.written c.loop-key.out) c.loop-key.text.items)
    (append_known (g.W.Sink.written c.put_held.new.out) c.put_held.new.text.items) =
    subst (λ (o : Option (Key × Option ℕ)). ListsUpTo o c.loop-key.origins (trails_left c.loop-key.left) (trails_left c.put_held.new.left) (append_known (g.W.Sink.written c.loop-key.out) c.loop-key.text.items) (append_known (g.W.Sink.written c.put_held.new.out) c.put_held.new.text.items))
    c.in-Some.is c.in_ok-key.ensures.before in
    subst (λ (t : List ℕ). ListsFirst c.args.origins.now (trails_left c.args.trails) (append_known (g.W.Sink.written c.args.out.now) c.args.text.now.items)
    (append_known (g.W.Sink.written c.put_held.new.out) t)) (sym {A = List ℕ} c.in_err-put_origin.ensures.err)
    (first_up_to c.args.origins.now c.loop-key.origins (append_known (g.W.Sink.written c.args.out.now) c.args.text.now.items) (append_known (g.W.Sink.written c.loop-key.out) c.loop-key.text.items)
    (append_known (g.W.Sink.written c.put_held.new.out) c.put_held.new.text.items) (trails_left c.args.trails) (trails_left c.loop-key.left) (trails_left c.put_held.new.left)
    (c.in-Some.key, c.in-Some.origin) c.loop-key.invariant.so_far c.loop-key.invariant.same up_to)

pub returns-in_err-put_origin-clause-grows : goal.returns-in_err-put_origin-clause-grows
returns-in_err-put_origin-clause-grows g c = Grows-trans c.loop-key.invariant.grows c.put_held.ensures.grows

pub returns-in_err-pour_piece-clause-front : goal.returns-in_err-pour_piece-clause-front
returns-in_err-pour_piece-clause-front g c =
    let up_to : ListsUpToOne (c.in-Some.key, c.in-Some.origin) c.loop-key.origins (trails_left c.loop-key.left) (trails_left c.put_held.new.left) (append_known (g.W.Sink.written c.loop-key.out) c.loop-key.text.items)
    (append_known (g.W.Sink.written c.put_held.new.out) c.put_held.new.text.items) =
    subst (λ (o : Option (Key × Option ℕ)). ListsUpTo o c.loop-key.origins (trails_left c.loop-key.left) (trails_left c.put_held.new.left) (append_known (g.W.Sink.written c.loop-key.out) c.loop-key.text.items) (append_known (g.W.Sink.written c.put_held.new.out) c.put_held.new.text.items))
    c.in-Some.is c.in_ok-key.ensures.before in
    record {
      rest = trails_left c.put_held.new.left;
      before = lists_one c.args.origins.now c.loop-key.origins (append_known (g.W.Sink.written c.args.out.now) c.args.text.now.items)
          (append_known (g.W.Sink.written c.loop-key.out) c.loop-key.text.items)
          (append_known (g.W.Sink.written c.put_held.new.out) c.put_held.new.text.items) (append_known (g.W.Sink.written c.pour_piece.new.out) c.pour_piece.new.text.items)
          (trails_left c.args.trails) (trails_left c.loop-key.left) (trails_left c.put_held.new.left) (c.in-Some.key, c.in-Some.origin) c.in_ok-state.state
          (g.W.Sink.written c.put_held.new.out) c.put_held.new.text.items c.put_origin.new.out.items c.loop-key.invariant.so_far c.loop-key.invariant.same up_to c.in_ok-state.ensures.state refl
          c.in_ok-put_origin.ensures.ok c.pour_piece.ensures.same;
    }

pub returns-in_err-pour_piece-clause-grows : goal.returns-in_err-pour_piece-clause-grows
returns-in_err-pour_piece-clause-grows g c = Grows-trans (Grows-trans c.loop-key.invariant.grows c.put_held.ensures.grows) c.pour_piece.ensures.grows

pub returns-clause-whole : goal.returns-clause-whole
returns-clause-whole g c =
    all_then c.args.origins.now c.loop-key.origins (append_known (g.W.Sink.written c.args.out.now) c.args.text.now.items) (append_known (g.W.Sink.written c.loop-key.out) c.loop-key.text.items)
    (append_known (g.W.Sink.written c.put_held.new.out) c.put_held.new.text.items) (trails_left c.args.trails) (trails_left c.loop-key.left)
    c.loop-key.invariant.so_far c.loop-key.invariant.same
    (subst (λ (o : Option (Key × Option ℕ)). ListsUpTo o c.loop-key.origins (trails_left c.loop-key.left) (trails_left c.put_held.new.left) (append_known (g.W.Sink.written c.loop-key.out) c.loop-key.text.items) (append_known (g.W.Sink.written c.put_held.new.out) c.put_held.new.text.items)) c.in_default.is c.in_ok-key.ensures.before)

pub returns-clause-front : goal.returns-clause-front
returns-clause-front g c =
    first_all _ _ _ _ (all_then c.args.origins.now c.loop-key.origins (append_known (g.W.Sink.written c.args.out.now) c.args.text.now.items) (append_known (g.W.Sink.written c.loop-key.out) c.loop-key.text.items)
    (append_known (g.W.Sink.written c.put_held.new.out) c.put_held.new.text.items) (trails_left c.args.trails) (trails_left c.loop-key.left)
    c.loop-key.invariant.so_far c.loop-key.invariant.same
    (subst (λ (o : Option (Key × Option ℕ)). ListsUpTo o c.loop-key.origins (trails_left c.loop-key.left) (trails_left c.put_held.new.left) (append_known (g.W.Sink.written c.loop-key.out) c.loop-key.text.items) (append_known (g.W.Sink.written c.put_held.new.out) c.put_held.new.text.items)) c.in_default.is c.in_ok-key.ensures.before))

pub returns-clause-grows : goal.returns-clause-grows
returns-clause-grows g c = Grows-trans c.loop-key.invariant.grows c.put_held.ensures.grows
