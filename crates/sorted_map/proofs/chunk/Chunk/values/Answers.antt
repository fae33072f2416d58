use Rattle.std.proofs.Common.{sym, ap, ◌∙◌}
use Rattle.std.specs.Map.{values_of}
use Rattle.sorted_map.proofs.ZipLemmas.{values_are}
use Rattle.sorted_map.proofs.chunk.Chunk.values.Goals as goal

pub returns : goal.returns
returns g c = c.deref.ensures.value ∙ sym (values_are c.self.inside.keys.items c.self.inside.values.items c.self.invariant) ∙ ap values_of c.self.view_is
