use Rattle.std.proofs.Common.{List, ℕ, Option, sym, subst}
use Rattle.std.specs.FinMap as map
use Rattle.path_model.specs.Rows.{PatchHasSets}
use Rattle.path_model.proofs.RowLemmas.{patch_empty}
use Rattle.path_model.proofs.patch.Patch.new.Goals as goal

pub invariant_of-result : goal.invariant_of-result
invariant_of-result c = subst (λ (es : List (ℕ × Option (List ℕ))). PatchHasSets (map.from_entries es)) (sym c.new.ensures.empty) patch_empty
