use Rattle.std.proofs.Common.{sym, ap, ◌∙◌}
use Rattle.attestations.specs.Terms.{SetOfTerms, members}
use Rattle.attestations.proofs.TermLemmas.{members_of_rising}
use Rattle.attestations.proofs.term_set.TermSet.as_slice.Goals as goal

pub returns : goal.returns
returns c = c.as_slice.ensures.value ∙ sym (members_of_rising c.self.inside.terms.items c.self.invariant) ∙ ap (λ (s : SetOfTerms). members s) c.self.view_is
