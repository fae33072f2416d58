use Rattle.std.proofs.Common.{sym, subst}
use Rattle.attestations.specs.Terms.{SetOfTerms, HaveSetsOfProviders, members}
use Rattle.attestations.proofs.TermLemmas.{only_ascends}
use Rattle.attestations.proofs.terms.Terms.set_all.Goals as goal

pub set_only-requires : goal.set_only-requires
set_only-requires c = only_ascends c.in-Ok.term (subst (λ (s : SetOfTerms). HaveSetsOfProviders (members s)) (sym c.in-Ok.ensures) c.requires)
