-- How attestations are held: the types' own models and private contracts alone cite this.
use Rattle.std.specs.Prelude.{◌≡◌, ℕ, true, List, [], ◌∷◌, ◌++◌, is_some}
use Rattle.std.specs.FinMap as map
use Rattle.std.specs.Ordering.{nat_cmp}
use Rattle.std.specs.declared.option.Option.TheVariants.{None}
use Rattle.std.specs.declared.result.Result.{Result}
use Rattle.std.specs.declared.result.Result.TheVariants.{Ok, Err}
use Rattle.path_model.specs.Rows.{RowMap}
use Rattle.attestations.specs.declared.term.Term.{Term}
use Rattle.attestations.specs.Gathered.{TermLists, list_or_none}
use Rattle.attestations.specs.Terms.{SetOfTerms, TermMap, AllHaveSets, each, members, never_ending, only, set_of, terms_or_none}

-- The attestations of three maps: rows, of which each is one attestation that never ends; one attestation of each customer; several.
abbrev pub held : RowMap → List (ℕ × Term) → List (ℕ × SetOfTerms) → TermMap
held rows single many = map.from_entries (each never_ending (map.entries rows) ++ (each only single ++ many))

-- a customer is in one of the three at most, and each attestation's providers are a set
pub record IsHeld (rows : RowMap) (single : List (ℕ × Term)) (many : List (ℕ × SetOfTerms)) : Type 0 where
  pub not_single : (x : ℕ) → is_some (map.get rows x) ≡ true → map.find nat_cmp x single ≡ None
  pub not_many : (x : ℕ) → is_some (map.get rows x) ≡ true → map.find nat_cmp x many ≡ None
  pub one_or_many : (x : ℕ) → is_some (map.find nat_cmp x single) ≡ true → map.find nat_cmp x many ≡ None
  pub sets : AllHaveSets (held rows single many)

-- the set of one or of several
abbrev pub all_of : Result Term SetOfTerms → SetOfTerms
all_of (Ok term) = only term
all_of (Err terms) = terms

-- several attestations more of a customer
abbrev pub with_list : TermMap → ℕ → List Term → TermMap
with_list old customer terms = map.insert old customer (set_of (members (terms_or_none (map.get old customer)) ++ terms))

-- the first attestation of each customer, and then the others of it
abbrev pub in_order : List (ℕ × List Term) → List (ℕ × SetOfTerms) → List (ℕ × List Term)
in_order others [] = others
in_order others (first ∷ firsts) = (first.0, members first.1 ++ list_or_none (map.find nat_cmp first.0 others)) ∷ in_order others firsts

-- what was gathered, of which the first attestation of each customer is held apart
abbrev pub gathered : TermMap → List (ℕ × List Term) → TermLists
gathered firsts others = map.from_entries (in_order others (map.entries firsts))
