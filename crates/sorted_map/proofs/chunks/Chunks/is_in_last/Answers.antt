use Rattle.std.proofs.Common.{◌≡◌, ◌-◌, length, slice_get, Some, subst, sym, ap, ◌∙◌}
use Rattle.std.specs.Ordering.{is_ge}
use Rattle.sorted_map.specs.Joined.{AreInOrder, IsPlace}
use Rattle.sorted_map.proofs.FirstLemmas.{placed_last}
use Rattle.sorted_map.proofs.chunks.Chunks.is_in_last.Goals as goal

pub returns-in-Some : goal.returns-in-Some
returns-in-Some g c = λ told.
    subst (λ bs. IsPlace g.K.Ord.cmp c.args.key.now bs (length bs - 1)) c.self.view_is
    (placed_last g.met.K.Ord.total c.args.key.now c.self.inside.firsts.items c.self.inside.list.items c.in-Some.first.now c.self.invariant
    (subst (AreInOrder g.K.Ord.cmp) (sym c.self.view_is) c.requires) (subst (λ fs. slice_get fs (length fs - 1) ≡ Some c.in-Some.first.now) c.deref.ensures.value (sym c.in-Some.ensures.value)) (sym (ap is_ge c.cmp.ensures) ∙ sym c.is_ge.ensures ∙ told))
