use Rattle.std.proofs.Common.{arith, ap, ◌∙◌, ◌++◌}
use Rattle.std.specs.List.{zip}
use Rattle.sorted_map.proofs.ChunkLemmas.{appended_is, both_appended}
use Rattle.sorted_map.proofs.ZipLemmas.{zip_same}
use Rattle.sorted_map.proofs.chunk.Chunk.take_over.Goals as goal

pub returns-clause-moved : goal.returns-clause-moved
returns-clause-moved g c = λ told.
    let keys = appended_is c.append-keys.result c.self.inside.keys.items c.upper.inside.keys.items c.append-keys.new.self.items
    (c.append-keys.ensures.succeeds (omega (arith, c.capacity.ensures, c.len.ensures, c.len-more.ensures, c.if-room-more.false, c.self.inside.keys.ok))) c.append-keys.ensures.items in
    let values = appended_is c.append-values.result c.self.inside.values.items c.upper.inside.values.items c.append-values.new.self.items
    (c.append-values.ensures.succeeds (omega (
      arith,
      c.capacity-else-room-more.ensures,
      c.len-else-room-more.ensures,
      c.len-more.ensures,
      c.if-capacity-len.false,
      c.self.inside.values.ok,
      c.upper.inside.keys.ok,
      c.upper.inside.values.ok,
      c.upper.invariant,
    ))) c.append-values.ensures.items in
    zip_same _ _ _ _ keys values
    ∙ both_appended c.self.inside.keys.items c.upper.inside.keys.items c.self.inside.values.items c.upper.inside.values.items c.self.invariant
    ∙ ap (λ es. es ++ zip c.upper.inside.keys.items c.upper.inside.values.items) c.self.view_is ∙ ap (λ fs. c.args.self.now ++ fs) c.upper.view_is
