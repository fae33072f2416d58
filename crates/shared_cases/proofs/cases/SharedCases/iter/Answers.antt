use Rattle.std.proofs.Common.{ℕ, List, ap, ◌∙◌}
use Rattle.std.specs.Prelude.{map}
use Rattle.shared_cases.specs.declared.case.StoredCase.{StoredCase}
use Rattle.shared_cases.specs.Listed.{cases_of, listed}
use Rattle.shared_cases.proofs.ListedLemmas.{entries_listed}
use Rattle.shared_cases.proofs.cases.SharedCases.iter.Goals as goal

pub returns-clause-cases : goal.returns-clause-cases
returns-clause-cases c =
    ap (λ (es : List (ℕ × StoredCase)). map (λ e. listed e.1) es) c.iter-rest.ensures.rest ∙ entries_listed 0 c.self.inside.slab.slots ∙ ap cases_of c.self.view_is
