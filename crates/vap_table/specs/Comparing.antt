-- Which customers new attestations of a source name; private contracts alone cite it.
use Rattle.std.specs.Prelude.{◌≡◌, ◌⊎◌, ℕ, false, List}
use Rattle.std.specs.declared.option.Option.{Option}
use Rattle.std.specs.declared.option.Option.TheVariants.{Some, None}
use Rattle.std.specs.FinMap as map
use Rattle.std.specs.Option.{option_map}
use Rattle.attestations.specs.declared.attested.Attested.{Attested}
use Rattle.attestations.specs.declared.term.Term.{Term}
use Rattle.attestations.specs.Attested.{listed}
use Rattle.attestations.specs.Terms.{SetOfTerms, TermMap, members, set_of}
use Rattle.vap_table.specs.Lasts.{lasts_among}

-- the list of a customer's attestations, if it has any
abbrev pub lists_of : TermMap → ℕ → Option (List Term)
lists_of terms x = option_map members (map.get terms x)

-- the set of what is lent, if anything is
abbrev pub set_if : Option Attested → Option SetOfTerms
set_if attested = option_map (λ a. set_of (listed a)) attested

-- these attestations, if there are any, are the other ones
abbrev pub IsLeft : Option (List Term) → Option SetOfTerms → Type 0
IsLeft None other = Unit {0}
IsLeft (Some terms) other = other ≡ Some (set_of terms)

-- they have no last moment
abbrev pub NeverEnd : List Term → Type 0
NeverEnd terms = (moment : ℕ) → lasts_among terms moment ≡ false

-- one of the two
abbrev pub IsLeftOrLasting : Option (List Term) → Option SetOfTerms → Type 0
IsLeftOrLasting None other = Unit {0}
IsLeftOrLasting (Some terms) other = (other ≡ Some (set_of terms)) ⊎ NeverEnd terms

-- they have the last moments of the others
abbrev pub HaveSameLasts : List Term → List Term → Type 0
HaveSameLasts terms others = (moment : ℕ) → lasts_among terms moment ≡ lasts_among others moment
