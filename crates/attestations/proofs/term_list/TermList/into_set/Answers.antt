use Rattle.std.proofs.Common.{sym, subst}
use Rattle.attestations.specs.Terms.{SetOfTerms, HaveSetsOfProviders, members}
use Rattle.attestations.proofs.TermLemmas.{sets_of_list}
use Rattle.attestations.proofs.term_list.TermList.into_set.Goals as goal

pub returns-clause-sets : goal.returns-clause-sets
returns-clause-sets c = subst (λ (s : SetOfTerms). HaveSetsOfProviders (members s)) (sym c.of.ensures) (sets_of_list c.self.inside.terms.items c.self.invariant)
