use Rattle.std.proofs.Common.{sym, subst, length, ◌<◌}
use Rattle.sorted_map.specs.Joined.{AreInOrder}
use Rattle.sorted_map.proofs.StepLemmas.{sorted_here}
use Rattle.sorted_map.proofs.chunks.Chunks.place_with_room.Goals as goal

pub has-requires : goal.has-requires
has-requires g c = sorted_here g.K.Ord.cmp c.self.inside.list.items c.place-at.result c.index-else-len-lt-MOST.result.now c.index-else-len-lt-MOST.ensures
    (subst (λ cs. c.place-at.result < length cs) (sym c.self.view_is) c.place-at.ensures.within) (subst (AreInOrder g.K.Ord.cmp) (sym c.self.view_is) c.requires.in_order)
