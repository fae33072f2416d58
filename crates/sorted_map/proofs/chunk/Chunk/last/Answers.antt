use Rattle.std.proofs.Common.{arith, ap, ◌∙◌, ◌-◌, length, slice_get}
use Rattle.sorted_map.proofs.ChunkLemmas.{last_of_both}
use Rattle.sorted_map.proofs.chunk.Chunk.last.Goals as goal

pub returns : goal.returns
returns g c =
    last_of_both c.self.inside.keys.items c.self.inside.values.items (c.len-len.result - 1) c.index.result.now c.index-2.result.now c.self.invariant
    (omega (arith, c.len-len.ensures, c.self.inside.keys.ok, c.if-len-eq0.false)) c.index.ensures c.index-2.ensures
    ∙ ap (λ es. slice_get es (length es - 1)) c.self.view_is
