use Rattle.std.proofs.Common.{arith, ◌∙◌}
use Rattle.sorted_map.proofs.ChunkLemmas.{entry_count, insert_view}
use Rattle.sorted_map.proofs.ZipLemmas.{zip_same}
use Rattle.sorted_map.proofs.chunk.Chunk.insert_at.Goals as goal

pub insert-requires : goal.insert-requires
insert-requires g c = omega (arith, c.requires, c.self.inside.keys.ok, entry_count c.self.inside.keys.items c.self.inside.values.items c.args.self.now c.self.view_is c.self.invariant)

pub insert-requires-2 : goal.insert-requires-2
insert-requires-2 g c = omega (arith, c.requires, c.self.invariant, c.self.inside.values.ok, entry_count c.self.inside.keys.items c.self.inside.values.items c.args.self.now c.self.view_is c.self.invariant)

pub remove-requires : goal.remove-requires
remove-requires g c = omega (arith, c.requires, c.in_ok-insert.ensures.len, c.self.inside.keys.ok, entry_count c.self.inside.keys.items c.self.inside.values.items c.args.self.now c.self.view_is c.self.invariant)

pub returns-in-Ok-clause-inserted : goal.returns-in-Ok-clause-inserted
returns-in-Ok-clause-inserted g c =
    zip_same _ _ _ _ c.in_ok-insert.ensures.items c.in-Ok.ensures.items
    ∙ insert_view c.self.inside.keys.items c.self.inside.values.items c.args.self.now c.self.view_is c.self.invariant c.args.at c.args.key c.args.value
