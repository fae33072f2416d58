use Rattle.std.proofs.Common.{List, ℕ, [], sym, subst, ◌∙◌}
use Rattle.std.specs.FinMap as map
use Rattle.path_model.specs.Rows.{RowMap}
use Rattle.path_model.proofs.RowLemmas.{sets_empty}
use Rattle.attestations.specs.declared.term.Term.{Term}
use Rattle.attestations.specs.Held.{IsHeld, held}
use Rattle.attestations.specs.Terms.{SetOfTerms}
use Rattle.attestations.proofs.EntryLemmas.{no_terms}
use Rattle.attestations.proofs.HeldLemmas.{held_rows, rows_held}
use Rattle.attestations.proofs.terms.Terms.new.Goals as goal

pub invariant_of-result : goal.invariant_of-result
invariant_of-result c =
    subst (λ (es : List (ℕ × Term)). IsHeld c.new.result es c.new-3.result.entries) (sym c.new-2.ensures.empty)
    (subst (λ (es : List (ℕ × SetOfTerms)). IsHeld c.new.result [] es) (sym c.new-3.ensures.empty)
    (subst (λ (m : RowMap). IsHeld m [] []) (sym c.new.ensures) (rows_held map.empty sets_empty)))

pub returns : goal.returns
returns c = (λ i. held (c.new.ensures i) (c.new-2.ensures.empty i) (c.new-3.ensures.empty i)) ∙ held_rows map.empty ∙ no_terms
