use Rattle.attestations.proofs.GatheredLemmas.{Adding}
use Rattle.attestations.proofs.gathered_terms.GatheredTerms.into_terms.Given as goal

abbrev pub invariant-loop-customer : goal.invariant-loop-customer
invariant-loop-customer l = Adding l.initial.terms l.initial.customer-iterator l.customer-iterator l.terms
