use Rattle.std.proofs.Common.{ap, ◌∙◌, ◌++◌, ◌∷◌, []}
use Rattle.sorted_map.proofs.ChunkLemmas.{both_appended}
use Rattle.sorted_map.proofs.ZipLemmas.{zip_same}
use Rattle.sorted_map.proofs.chunk.Chunk.push.Goals as goal

pub returns-in-Ok-clause-pushed : goal.returns-in-Ok-clause-pushed
returns-in-Ok-clause-pushed g c =
    zip_same _ _ _ _ c.in_ok-push.ensures.items c.in-Ok.ensures.items
    ∙ both_appended c.self.inside.keys.items (c.args.key ∷ []) c.self.inside.values.items (c.args.value ∷ []) c.self.invariant
    ∙ ap (λ es. es ++ (c.args.key, c.args.value) ∷ []) c.self.view_is
