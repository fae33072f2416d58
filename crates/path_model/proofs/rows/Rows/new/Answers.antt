use Rattle.std.proofs.Common.{List, ℕ, sym, subst}
use Rattle.std.specs.FinMap as map
use Rattle.path_model.specs.Rows.{HaveSets}
use Rattle.path_model.proofs.RowLemmas.{sets_empty}
use Rattle.path_model.proofs.rows.Rows.new.Goals as goal

pub invariant_of-result : goal.invariant_of-result
invariant_of-result c = subst (λ (es : List (ℕ × List ℕ)). HaveSets (map.from_entries es)) (sym c.new.ensures.empty) sets_empty
