use Rattle.std.proofs.Common.{arith, ap, sym, subst, ◌∙◌, ◌≡◌, set, length}
use Rattle.std.specs.BTreeMap.{insert_entry, is_at}
use Rattle.std.specs.Map.{lookup}
use Rattle.std.proofs.lemmas.Result.{on_ok_weaker, IfOk-weaker}
use Rattle.sorted_map.specs.Chunk.{BeginsWith}
use Rattle.sorted_map.specs.Joined.{joined, IsPlace}
use Rattle.sorted_map.proofs.FirstLemmas.{as_many, have_entries, noted, some_entry}
use Rattle.sorted_map.proofs.JoinedLemmas.{place_lookup, place_put}
use Rattle.sorted_map.proofs.StepLemmas.{sorted_here, same_order, some_here, some_after, put_here}
use Rattle.sorted_map.proofs.chunks.Chunks.put_within.Goals as goal

pub put-before-requires : goal.put-before-requires
put-before-requires g c =
    let place = subst (λ cs. IsPlace g.K.Ord.cmp c.args.key cs c.in_ok-at.at) (sym c.self.view_is) c.in_ok-at.ensures.place in
    sorted_here g.K.Ord.cmp c.self.inside.list.items c.in_ok-at.at c.index_mut.result.now c.index_mut.ensures.value place.within
    (same_order g.K.Ord.cmp c.args.self.now c.self.inside.list.items (ap joined c.self.view_is ∙ c.place_with_room.ensures.same) c.requires.in_order)

pub first-requires : goal.first-requires
first-requires g c =
    let place = subst (λ cs. IsPlace g.K.Ord.cmp c.args.key cs c.in_ok-at.at) (sym c.self.view_is) c.in_ok-at.ensures.place in
    let same = put_here c.self.inside.list.items c.in_ok-at.at c.put-before.new.self c.index.result.now place.within c.index.ensures in
    rw same (some_entry c.put-before.new.self
    (some_after g.K.Ord.cmp c.put-before.result c.args.key c.args.value c.index_mut.result.now c.put-before.new.self c.put-before.ensures.put c.put-before.ensures.same
    (some_here c.self.inside.list.items c.in_ok-at.at c.index_mut.result.now c.index_mut.ensures.value place.within (have_entries c.self.inside.firsts.items c.self.inside.list.items c.self.invariant))))

pub index_mut-requires-2 : goal.index_mut-requires-2
index_mut-requires-2 g c =
    omega (arith, c.in_ok-at.ensures.place.within, c.self.inside.firsts.ok, as_many c.self.inside.firsts.items c.self.inside.list.items c.self.invariant, ap length c.self.view_is)

pub invariant_of-self : goal.invariant_of-self
invariant_of-self g c =
    let place = subst (λ cs. IsPlace g.K.Ord.cmp c.args.key cs c.in_ok-at.at) (sym c.self.view_is) c.in_ok-at.ensures.place in
    noted c.self.inside.firsts.items c.self.inside.list.items c.in_ok-at.at c.first.result c.put-before.new.self c.self.invariant
    (subst (BeginsWith c.first.result) (put_here c.self.inside.list.items c.in_ok-at.at c.put-before.new.self c.index.result.now place.within c.index.ensures) c.first.ensures)

pub returns-clause-before : goal.returns-clause-before
returns-clause-before g c =
    let place = subst (λ cs. IsPlace g.K.Ord.cmp c.args.key cs c.in_ok-at.at) (sym c.self.view_is) c.in_ok-at.ensures.place in
    IfOk-weaker c.put-before.result
    (λ v. v ≡ lookup (is_at (g.K.Ord.cmp c.args.key)) c.index_mut.result.now) (λ v. v ≡ lookup (is_at (g.K.Ord.cmp c.args.key)) (joined c.args.self.now))
    (λ v is. is ∙ place_lookup g.met.K.Ord.total c.args.key c.self.inside.list.items c.in_ok-at.at place c.index_mut.result.now c.index_mut.ensures.value
    ∙ ap (lookup (is_at (g.K.Ord.cmp c.args.key))) (ap joined c.self.view_is ∙ c.place_with_room.ensures.same)) c.put-before.ensures.before

pub returns-clause-put : goal.returns-clause-put
returns-clause-put g c =
    let place = subst (λ cs. IsPlace g.K.Ord.cmp c.args.key cs c.in_ok-at.at) (sym c.self.view_is) c.in_ok-at.ensures.place in
    on_ok_weaker c.put-before.result
    (λ put. ap (λ b. joined (set c.self.inside.list.items c.in_ok-at.at b)) put
    ∙ place_put g.met.K.Ord.total c.args.key c.self.inside.list.items c.in_ok-at.at place c.index_mut.result.now c.index_mut.ensures.value c.args.value
    ∙ ap (λ es. insert_entry g.K.Ord.cmp es c.args.key c.args.value) (ap joined c.self.view_is ∙ c.place_with_room.ensures.same)) c.put-before.ensures.put
