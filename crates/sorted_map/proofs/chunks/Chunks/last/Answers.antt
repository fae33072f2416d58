use Rattle.std.proofs.Common.{ap, sym, subst, ◌∙◌, ◌-◌, length, slice_get}
use Rattle.sorted_map.specs.Joined.{joined, HaveEntries}
use Rattle.sorted_map.proofs.FirstLemmas.{have_entries, last_joined}
use Rattle.sorted_map.proofs.chunks.Chunks.last.Goals as goal

pub returns-in-Some : goal.returns-in-Some
returns-in-Some g c =
    c.last-in-Some.ensures
    ∙ last_joined c.deref.result.now c.in-Some.chunk.now
    (subst HaveEntries (sym c.deref.ensures.value) (have_entries c.self.inside.firsts.items c.self.inside.list.items c.self.invariant)) c.in-Some.ensures.value
    ∙ ap (λ cs. slice_get (joined cs) (length (joined cs) - 1)) (c.deref.ensures.value ∙ c.self.view_is)
