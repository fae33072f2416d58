use Rattle.std.proofs.Common.{List, ℕ, [], sym, ◌∙◌, subst}
use Rattle.attestations.specs.declared.term.Term.{Term}
use Rattle.attestations.specs.Held.{IsHeld, held}
use Rattle.attestations.specs.Terms.{SetOfTerms}
use Rattle.attestations.proofs.HeldLemmas.{held_rows, rows_held}
use Rattle.attestations.proofs.terms.Terms.of.Goals as goal

pub invariant_of-result : goal.invariant_of-result
invariant_of-result c =
    subst (λ (es : List (ℕ × Term)). IsHeld c.args.rows es c.new-2.result.entries) (sym c.new.ensures.empty)
    (subst (λ (es : List (ℕ × SetOfTerms)). IsHeld c.args.rows [] es) (sym c.new-2.ensures.empty) (rows_held c.args.rows c.entries.ensures.sets))

pub returns : goal.returns
returns c = (λ i. held c.args.rows (c.new.ensures.empty i) (c.new-2.ensures.empty i)) ∙ held_rows c.args.rows
