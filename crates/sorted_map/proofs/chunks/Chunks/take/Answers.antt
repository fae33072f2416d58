use Rattle.std.proofs.Common.{arith, ap, sym, subst, ◌∙◌, set, length, ◌<◌}
use Rattle.std.specs.BTreeMap.{is_at}
use Rattle.std.specs.Map.{lookup, remove_entry}
use Rattle.std.specs.List.{remove}
use Rattle.sorted_map.specs.Chunk.{BeginsWith}
use Rattle.sorted_map.specs.Joined.{joined, AreFirsts, AreInOrder, IsPlace}
use Rattle.sorted_map.proofs.FirstLemmas.{as_many, gone, noted}
use Rattle.sorted_map.proofs.JoinedLemmas.{place_lookup, place_removed, emptied_gone}
use Rattle.sorted_map.proofs.StepLemmas.{sorted_here, left_empty, put_here}
use Rattle.sorted_map.proofs.chunks.Chunks.take.Goals as goal

pub remove-before-requires : goal.remove-before-requires
remove-before-requires g c = sorted_here g.K.Ord.cmp c.self.inside.list.items c.place-at.result c.index_mut.result.now c.index_mut.ensures.value
    (subst (λ cs. c.place-at.result < length cs) (sym c.self.view_is) c.place-at.ensures.within) (subst (AreInOrder g.K.Ord.cmp) (sym c.self.view_is) c.requires)

pub remove-requires-then-len-eq0 : goal.remove-requires-then-len-eq0
remove-requires-then-len-eq0 g c =
    omega (arith, c.place-at.ensures.within, c.self.inside.firsts.ok, as_many c.self.inside.firsts.items c.self.inside.list.items c.self.invariant, ap length c.self.view_is)

pub invariant_of-self : goal.invariant_of-self
invariant_of-self g c =
    subst (λ ks. AreFirsts ks c.remove.new.self.items) (sym c.remove-then-len-eq0.ensures.items)
    (subst (AreFirsts (remove c.self.inside.firsts.items c.place-at.result)) (sym c.remove.ensures.items)
    (gone c.self.inside.firsts.items c.self.inside.list.items c.place-at.result c.remove-before.new.self c.self.invariant))

pub returns-then-len-eq0-clause-before : goal.returns-then-len-eq0-clause-before
returns-then-len-eq0-clause-before g c =
    c.remove-before.ensures.before ∙ place_lookup g.met.K.Ord.total c.args.key.now c.self.inside.list.items c.place-at.result
    (subst (λ cs. IsPlace g.K.Ord.cmp c.args.key.now cs c.place-at.result) (sym c.self.view_is) c.place-at.ensures) c.index_mut.result.now c.index_mut.ensures.value
    ∙ ap (λ cs. lookup (is_at (g.K.Ord.cmp c.args.key.now)) (joined cs)) c.self.view_is

pub returns-then-len-eq0-clause-taken : goal.returns-then-len-eq0-clause-taken
returns-then-len-eq0-clause-taken g c =
    let cs = c.self.inside.list.items in
    let place = subst (λ bs. IsPlace g.K.Ord.cmp c.args.key.now bs c.place-at.result) (sym c.self.view_is) c.place-at.ensures in
    ap joined c.remove.ensures.items
    ∙ emptied_gone cs c.place-at.result c.remove-before.new.self (left_empty cs c.place-at.result c.len.result c.remove-before.new.self c.index.result.now place.within c.index.ensures c.len.ensures c.if-len-eq0.true)
    ∙ ap (λ b. joined (set cs c.place-at.result b)) c.remove-before.ensures.removed
    ∙ place_removed g.met.K.Ord.total c.args.key.now cs c.place-at.result place c.index_mut.result.now c.index_mut.ensures.value
    ∙ ap (λ bs. remove_entry (is_at (g.K.Ord.cmp c.args.key.now)) (joined bs)) c.self.view_is

pub index_mut-requires-2 : goal.index_mut-requires-2
index_mut-requires-2 g c =
    omega (arith, c.place-at.ensures.within, c.self.inside.firsts.ok, as_many c.self.inside.firsts.items c.self.inside.list.items c.self.invariant, ap length c.self.view_is)

pub invariant_of-self-2 : goal.invariant_of-self-2
invariant_of-self-2 g c =
    noted c.self.inside.firsts.items c.self.inside.list.items c.place-at.result c.first.result c.remove-before.new.self c.self.invariant
    (subst (BeginsWith c.first.result)
    (put_here c.self.inside.list.items c.place-at.result c.remove-before.new.self c.index-2.result.now
    (subst (λ cs. c.place-at.result < length cs) (sym c.self.view_is) c.place-at.ensures.within) c.index-2.ensures) c.first.ensures)

pub returns-clause-before : goal.returns-clause-before
returns-clause-before g c =
    c.remove-before.ensures.before ∙ place_lookup g.met.K.Ord.total c.args.key.now c.self.inside.list.items c.place-at.result
    (subst (λ cs. IsPlace g.K.Ord.cmp c.args.key.now cs c.place-at.result) (sym c.self.view_is) c.place-at.ensures) c.index_mut.result.now c.index_mut.ensures.value
    ∙ ap (λ cs. lookup (is_at (g.K.Ord.cmp c.args.key.now)) (joined cs)) c.self.view_is

pub returns-clause-taken : goal.returns-clause-taken
returns-clause-taken g c =
    let cs = c.self.inside.list.items in
    let place = subst (λ bs. IsPlace g.K.Ord.cmp c.args.key.now bs c.place-at.result) (sym c.self.view_is) c.place-at.ensures in
    c.thin_out.ensures
    ∙ ap (λ b. joined (set cs c.place-at.result b)) c.remove-before.ensures.removed
    ∙ place_removed g.met.K.Ord.total c.args.key.now cs c.place-at.result place c.index_mut.result.now c.index_mut.ensures.value
    ∙ ap (λ bs. remove_entry (is_at (g.K.Ord.cmp c.args.key.now)) (joined bs)) c.self.view_is
