use Rattle.std.proofs.Common.{sym, ap, ◌∙◌}
use Rattle.std.specs.Map.{keys_of}
use Rattle.std.proofs.lemmas.Map.Made.{keys_of-zip}
use Rattle.sorted_map.proofs.chunk.Chunk.keys.Goals as goal

pub returns : goal.returns
returns g c = c.deref.ensures.value ∙ sym (keys_of-zip c.self.inside.keys.items c.self.inside.values.items c.self.invariant) ∙ ap keys_of c.self.view_is
