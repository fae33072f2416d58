use Rattle.std.proofs.Common.{rules, arith, sym, subst, length, ◌<◌, ◌≡◌, true, false}
use Rattle.std.specs.Ordering.{is_ge}
use Rattle.std.specs.List.{AllWithin}
use Rattle.std.specs.List.Sorted.{IsPartitionedBy}
use Rattle.std.proofs.lemmas.List.Sorted.{IsPartitionPoint-from_clause}
use Rattle.sorted_map.specs.Joined.{AreInOrder, IsPlace}
use Rattle.sorted_map.proofs.FirstLemmas.{parted_firsts, placed_by_firsts}
use Rattle.sorted_map.proofs.chunks.Chunks.place_among.Goals as goal

pub returns : goal.returns
returns g c =
    let key = c.args.key.now in
    let fs = c.self.inside.firsts.items in
    let cs = c.self.inside.list.items in
    let in_order = subst (AreInOrder g.K.Ord.cmp) (sym c.self.view_is) c.requires.in_order in
    let some = subst (λ bs. 0 < length bs) (sym c.self.view_is) c.requires.some in
    let point = IsPartitionPoint-from_clause (λ f. is_ge (g.K.Ord.cmp key f)) _ _ c.partition_point.ensures.partitioned
    (subst (IsPartitionedBy (λ f. is_ge (g.K.Ord.cmp key f))) (sym c.deref.ensures.value) (parted_firsts g.met.K.Ord.total key fs cs c.self.invariant in_order)) (λ a r q k. search rules) in
    subst (λ bs. IsPlace g.K.Ord.cmp key bs c.saturating_sub.result) c.self.view_is
    (placed_by_firsts g.met.K.Ord.total key fs cs c.partition_point.result c.saturating_sub.result c.self.invariant in_order some
    (omega (arith, c.partition_point.ensures.bound, c.deref.ensures.len, c.self.inside.firsts.ok)) (omega (arith, c.saturating_sub.ensures))
    (subst (λ bs. AllWithin (λ f. is_ge (g.K.Ord.cmp key f) ≡ true) bs 0 c.partition_point.result) c.deref.ensures.value point.0)
    (subst (λ bs. AllWithin (λ f. is_ge (g.K.Ord.cmp key f) ≡ false) bs c.partition_point.result (length bs)) c.deref.ensures.value point.1))
