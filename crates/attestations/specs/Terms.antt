-- Attestations with an end, by customer.
use Rattle.std.specs.Prelude.{◌≡◌, ℕ, nat_lt, Bool, true, List, [], ◌∷◌, map}
use Rattle.std.specs.FinMap as map
use Rattle.std.specs.List.{AllByRecursion, filter}
use Rattle.std.specs.List.Sorted.{IsStrictlyIncreasing}
use Rattle.std.specs.Ordering.{nat_cmp, ordering_then}
use Rattle.std.specs.Option.{option_cmp, option_map}
use Rattle.std.specs.Cmp.Lexicographic.{slice_cmp}
use Rattle.std.specs.declared.cmp.Ordering.{Ordering}
use Rattle.std.specs.declared.option.Option.{Option}
use Rattle.std.specs.declared.option.Option.TheVariants.{Some, None}
use Rattle.path_model.specs.Rows.{RowMap}
use Rattle.path_model.specs.Sets.{IsSetOf}
use Rattle.attestations.specs.declared.term.Term.{Term}

-- An order that tells attestations apart: those without an end first, then by end and by providers.
abbrev pub term_cmp : Term → Term → Ordering
term_cmp a b = ordering_then (option_cmp nat_cmp a.until b.until) (slice_cmp nat_cmp a.providers b.providers)

-- a finite set of attestations of one customer: the keys of a finite map with nothing at each
abbrev pub SetOfTerms : Type 0
SetOfTerms = map.FinMap term_cmp (Unit {0})

-- its members, each once, in their order
abbrev pub members : SetOfTerms → List Term
members terms = map.keys terms

-- one more of them
abbrev pub with_term : SetOfTerms → Term → SetOfTerms
with_term terms term = map.insert terms term tt

-- the set of a list's members
abbrev pub set_of : List Term → SetOfTerms
set_of [] = map.empty
set_of (term ∷ terms) = with_term (set_of terms) term

-- from each customer that has one to its set of attestations
abbrev pub TermMap : Type 0
TermMap = map.FinMap nat_cmp SetOfTerms

-- what a customer has, or nothing
abbrev pub terms_or_none : Option SetOfTerms → SetOfTerms
terms_or_none None = map.empty
terms_or_none (Some terms) = terms

-- its end is never, or is later than the moment
abbrev pub is_alive : ℕ → Option ℕ → Bool
is_alive moment None = true
is_alive moment (Some end) = nat_lt moment end

-- the sets of the attestations that are alive, in the order of these
abbrev pub alive_among : ℕ → List Term → List (List ℕ)
alive_among moment terms = map {B = List ℕ} (λ t. t.providers) (filter (λ t. is_alive moment t.until) terms)

-- those of a customer
abbrev pub alive_of : ℕ → Option SetOfTerms → List (List ℕ)
alive_of moment terms = alive_among moment (members (terms_or_none terms))

-- one more attestation of a customer; all others stay
pub record UnitesTerm (old : TermMap) (customer : ℕ) (providers : List ℕ) (until : Option ℕ) (new : TermMap) : Type 0 where
  pub row : List ℕ
  pub is_set : IsSetOf providers row
  pub whole : new ≡ map.insert old customer (with_term (terms_or_none (map.get old customer)) (record { providers = row; until = until }))

-- an attestation of these providers that never ends
abbrev pub lasting : List ℕ → Term
lasting row = record { providers = row; until = None }

-- the set of one attestation
abbrev pub only : Term → SetOfTerms
only term = set_of (term ∷ [])

-- one attestation that never ends
abbrev pub never_ending : List ℕ → SetOfTerms
never_ending row = only (lasting row)

-- the entries with each value changed
abbrev pub each : {X Y : Type 0} → (X → Y) → List (ℕ × X) → List (ℕ × Y)
each {X} {Y} f entries = map {B = ℕ × Y} (λ e. (e.0, f e.1)) entries

-- each row as one attestation that never ends
abbrev pub terms_of : RowMap → TermMap
terms_of rows = map.from_entries (each never_ending (map.entries rows))

-- the same, customer by customer
abbrev pub AreNeverEnding : RowMap → TermMap → Type 0
AreNeverEnding rows terms = (customer : ℕ) → map.get terms customer ≡ option_map never_ending (map.get rows customer)

-- each attestation's providers strictly ascend
abbrev pub HaveSetsOfProviders : List Term → Type 0
HaveSetsOfProviders terms = AllByRecursion (λ t. IsStrictlyIncreasing t.providers) terms

-- the attestations of each customer have sets of providers
abbrev pub AllHaveSets : TermMap → Type 0
AllHaveSets terms = (customer : ℕ) → HaveSetsOfProviders (members (terms_or_none (map.get terms customer)))

-- each row has exactly one attestation, which never ends, and nothing else has any
abbrev pub EachRowNeverEnds : Type 0
EachRowNeverEnds = (rows : RowMap) → AreNeverEnding rows (terms_of rows)
