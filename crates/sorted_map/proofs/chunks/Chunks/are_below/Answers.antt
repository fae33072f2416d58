use Rattle.std.proofs.Common.{sym, subst, ◌∙◌}
use Rattle.sorted_map.specs.Chunk.{AreBelow}
use Rattle.sorted_map.specs.Joined.{joined, AreInOrder, HaveEntries}
use Rattle.sorted_map.proofs.FirstLemmas.{have_entries}
use Rattle.sorted_map.proofs.StepLemmas.{sorted_last, below_by_last_chunk}
use Rattle.sorted_map.proofs.chunks.Chunks.are_below.Goals as goal

pub is_below-requires : goal.is_below-requires
is_below-requires g c = sorted_last g.K.Ord.cmp c.deref.result.now c.in-Some.chunk.now c.in-Some.ensures.value
    (subst (AreInOrder g.K.Ord.cmp) (sym (c.deref.ensures.value ∙ c.self.view_is)) c.requires.in_order)

pub returns-in-Some-clause-below : goal.returns-in-Some-clause-below
returns-in-Some-clause-below g c = λ told.
    subst (λ cs. AreBelow g.K.Ord.cmp c.args.key.now (joined cs)) (c.deref.ensures.value ∙ c.self.view_is)
    (below_by_last_chunk g.met.K.Ord.total c.args.key.now c.deref.result.now c.in-Some.chunk.now c.in-Some.ensures.value
    (subst (AreInOrder g.K.Ord.cmp) (sym (c.deref.ensures.value ∙ c.self.view_is)) c.requires.in_order)
    (subst HaveEntries (sym c.deref.ensures.value) (have_entries c.self.inside.firsts.items c.self.inside.list.items c.self.invariant)) (c.is_below.ensures told))
