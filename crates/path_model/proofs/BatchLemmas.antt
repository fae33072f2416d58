-- One batch more, and how many changes there are then.
use Rattle.std.proofs.Common.{◌≡◌, ◌+◌, List, [], ◌∷◌, ◌++◌, length, ap, ◌∙◌, append-nil}
use Rattle.std.proofs.lemmas.List.{length-append}
use Rattle.std.proofs.lemmas.List.Concat.{flat_map-append}
use Rattle.path_model.specs.declared.batch.Batch.{Batch}
use Rattle.path_model.specs.declared.change.Change.{Change}
use Rattle.path_model.specs.Batches.{changes_in, all_changes}

pub all_changes_append : (batches : List Batch) (batch : Batch) → all_changes (batches ++ batch ∷ []) ≡ all_changes batches ++ changes_in batch
all_changes_append batches batch = flat_map-append changes_in batches (batch ∷ []) ∙ ap (λ (l : List Change). all_changes batches ++ l) (append-nil (changes_in batch))

pub length_all_changes : (batches : List Batch) (batch : Batch) → length (all_changes (batches ++ batch ∷ [])) ≡ length (all_changes batches) + length (changes_in batch)
length_all_changes batches batch = ap length (all_changes_append batches batch) ∙ length-append (all_changes batches) (changes_in batch)
