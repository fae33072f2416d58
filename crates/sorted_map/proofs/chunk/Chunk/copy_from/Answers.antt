use Rattle.std.proofs.Common.{arith, drop, ap, ◌∙◌}
use Rattle.sorted_map.proofs.ChunkLemmas.{entry_count}
use Rattle.sorted_map.proofs.ZipLemmas.{zip_drop, zip_same}
use Rattle.sorted_map.proofs.chunk.Chunk.copy_from.Goals as goal

pub split_at-requires : goal.split_at-requires
split_at-requires g c = rw c.deref.ensures.value (omega (arith, c.requires, entry_count c.self.inside.keys.items c.self.inside.values.items c.args.self.now c.self.view_is c.self.invariant))

pub split_at-requires-2 : goal.split_at-requires-2
split_at-requires-2 g c = rw c.deref-2.ensures.value (omega (arith, c.requires, c.self.invariant, entry_count c.self.inside.keys.items c.self.inside.values.items c.args.self.now c.self.view_is c.self.invariant))

pub returns : goal.returns
returns g c =
    zip_same _ _ _ _ (c.in_ok-from_slice.ensures.items ∙ c.split_at.ensures.back ∙ ap (drop c.args.at) c.deref.ensures.value) (c.in_ok-from_slice-2.ensures.items ∙ c.split_at-2.ensures.back ∙ ap (drop c.args.at) c.deref-2.ensures.value)
    ∙ zip_drop c.args.at c.self.inside.keys.items c.self.inside.values.items c.self.invariant ∙ ap (drop c.args.at) c.self.view_is
