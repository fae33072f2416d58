-- Codes of attestations: what a Model that has maps of them needs.
use Rattle.std.specs.Prelude.{ℕ, List, refl}
use Rattle.std.specs.declared.option.Option.{Option}
use Rattle.std.specs.FinMap as map
use Rattle.std.specs.FinSet as set
use Rattle.std.specs.Coded.{Coded, code_by, coded×, coded_ℕ, coded_list, coded_option}
use Rattle.attestations.specs.declared.term.Term.{Term}
use Rattle.attestations.specs.Gathered.{TermLists}
use Rattle.attestations.specs.Terms.{SetOfTerms, TermMap}

abbrev pub coded_term : Coded Term
coded_term = code_by (List ℕ × Option ℕ) (coded× (coded_list coded_ℕ) (coded_option coded_ℕ)) (λ t. (t.providers, t.until)) (λ p. record { providers = p.0; until = p.1 }) (λ _. refl)

abbrev pub coded_set_of_terms : Coded SetOfTerms
coded_set_of_terms = set.code coded_term

abbrev pub coded_terms : Coded TermMap
coded_terms = map.code coded_ℕ coded_set_of_terms

abbrev pub coded_term_lists : Coded TermLists
coded_term_lists = map.code coded_ℕ (coded_list coded_term)
