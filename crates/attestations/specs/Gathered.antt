-- Attestations that are gathered before they become sets.
use Rattle.std.specs.Prelude.{◌≡◌, ℕ, List, [], ◌∷◌, ◌++◌}
use Rattle.std.specs.FinMap as map
use Rattle.std.specs.Ordering.{nat_cmp}
use Rattle.std.specs.Option.{option_map}
use Rattle.std.specs.declared.option.Option.{Option}
use Rattle.std.specs.declared.option.Option.TheVariants.{Some, None}
use Rattle.attestations.specs.declared.term.Term.{Term}
use Rattle.attestations.specs.Terms.{TermMap, set_of}

-- what is gathered of each customer, in its order
abbrev pub TermLists : Type 0
TermLists = map.FinMap nat_cmp (List Term)

-- what was gathered of a customer, or nothing
abbrev pub list_or_none : Option (List Term) → List Term
list_or_none None = []
list_or_none (Some terms) = terms

-- one attestation more at the end of the list of a customer
abbrev pub with_gathered : TermLists → ℕ → Term → TermLists
with_gathered old customer term = map.insert old customer (list_or_none (map.get old customer) ++ term ∷ [])

-- each customer's set is that of the attestations that were gathered of it
abbrev pub AreTermsOf : TermLists → TermMap → Type 0
AreTermsOf gathered terms = (customer : ℕ) → map.get terms customer ≡ option_map set_of (map.get gathered customer)
