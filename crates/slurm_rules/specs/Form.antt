-- The form of a file: what its tree says, with numbers as the tree holds them. It is that of RFC 8416 (section 3), and in version 2 it has
-- members for attestations, which are this project's profile.
use Rattle.std.specs.Prelude.{◌≡◌, ℕ, List, [], ◌∷◌, true, ◌||◌, codes, is_some, map, option_map, Vec}
use Rattle.std.specs.declared.alloc.Global.{Global}
use Rattle.std.specs.declared.option.Option.{Option}
use Rattle.std.specs.declared.option.Option.TheVariants.{Some}
use Rattle.serde_json.specs.Data.{Num, Data}
use Rattle.serde_json.specs.View.{number_view}
use Rattle.serde_json.specs.declared.number.Number.{Number}
use Rattle.json_fields.specs.Each.{Each}
use Rattle.json_fields.specs.Tokens.{text_view}
use Rattle.json_fields.specs.Object.{ArrayIs, IsNumber, MemberIs, number_at, number_if_there, text_if_there, array_at, may_have_text, has_only, are_arrays}
use Rattle.slurm_rules.specs.declared.draft.Version.{Version}
use Rattle.slurm_rules.specs.declared.draft.Version.TheVariants.{One, Two}
use Rattle.slurm_rules.specs.declared.draft.DraftAssertion.{DraftAssertion}
use Rattle.slurm_rules.specs.declared.draft.DraftPrefixFilter.{DraftPrefixFilter}
use Rattle.slurm_rules.specs.declared.draft.DraftPrefixAssertion.{DraftPrefixAssertion}
use Rattle.slurm_rules.specs.declared.draft.DraftPart.{DraftPart}
use Rattle.slurm_rules.specs.declared.draft.Draft.{Draft}

-- a customer and its providers, as numbers of the tree
pub record Assertion : Type 0 where
  pub customer : Num
  pub providers : List Num

-- the text of a prefix and an AS, of which one may be absent
pub record PrefixFilterText : Type 0 where
  pub prefix : Option (List ℕ)
  pub asn : Option Num

-- the text of a prefix, an AS, and a maximum length, which may be absent
pub record PrefixAssertionText : Type 0 where
  pub prefix : List ℕ
  pub asn : Num
  pub max : Option Num

-- the customers and the prefixes that are filtered out, each in the order of the file
pub record Filters : Type 0 where
  pub customers : List Num
  pub prefixes : List PrefixFilterText

-- the attestations and the prefixes that are asserted, likewise
pub record Assertions : Type 0 where
  pub attestations : List Assertion
  pub prefixes : List PrefixAssertionText

pub record Form : Type 0 where
  pub filters : Filters
  pub assertions : Assertions

-- an element of `aspaFilters`
pub record IsFilter (d : Data) (customer : Num) : Type 0 where
  pub only : has_only (codes "comment" ∷ codes "customerAsn" ∷ []) d ≡ true
  pub names : number_at (codes "customerAsn") d ≡ Some customer
  pub comment : may_have_text (codes "comment") d ≡ true

-- an element of `aspaAssertions`
pub record IsAssertion (d : Data) (assertion : Assertion) : Type 0 where
  pub only : has_only (codes "comment" ∷ codes "customerAsn" ∷ codes "providerAsns" ∷ []) d ≡ true
  pub names : number_at (codes "customerAsn") d ≡ Some assertion.customer
  pub providers : List Data
  pub attests : array_at (codes "providerAsns") d ≡ Some providers
  pub numbers : Each IsNumber providers assertion.providers
  pub comment : may_have_text (codes "comment") d ≡ true

-- an element of `prefixFilters`
pub record IsPrefixFilter (d : Data) (filter : PrefixFilterText) : Type 0 where
  pub only : has_only (codes "asn" ∷ codes "comment" ∷ codes "prefix" ∷ []) d ≡ true
  pub prefix : text_if_there (codes "prefix") d ≡ Some filter.prefix
  pub asn : number_if_there (codes "asn") d ≡ Some filter.asn
  pub some : (is_some filter.prefix || is_some filter.asn) ≡ true
  pub comment : may_have_text (codes "comment") d ≡ true

-- an element of `prefixAssertions`
pub record IsPrefixAssertion (d : Data) (assertion : PrefixAssertionText) : Type 0 where
  pub only : has_only (codes "asn" ∷ codes "comment" ∷ codes "maxPrefixLength" ∷ codes "prefix" ∷ []) d ≡ true
  pub prefix : text_if_there (codes "prefix") d ≡ Some (Some assertion.prefix)
  pub asn : number_if_there (codes "asn") d ≡ Some (Some assertion.asn)
  pub max : number_if_there (codes "maxPrefixLength") d ≡ Some assertion.max
  pub comment : may_have_text (codes "comment") d ≡ true

-- an object whose members are arrays, one of each of these names and no other
pub record HasArrays (names : List (List ℕ)) (d : Data) : Type 0 where
  pub only : has_only names d ≡ true
  pub arrays : are_arrays names d ≡ true

-- `validationOutputFilters`. The elements of `bgpsecFilters` are passed over unread.
abbrev pub IsFilterPart : Version → Data → Filters → Type 0
IsFilterPart One d filters = HasArrays (codes "bgpsecFilters" ∷ codes "prefixFilters" ∷ []) d × (filters.customers ≡ [])
    × ArrayIs IsPrefixFilter (codes "prefixFilters") d filters.prefixes
IsFilterPart Two d filters = HasArrays (codes "aspaFilters" ∷ codes "bgpsecFilters" ∷ codes "prefixFilters" ∷ []) d
    × ArrayIs IsFilter (codes "aspaFilters") d filters.customers × ArrayIs IsPrefixFilter (codes "prefixFilters") d filters.prefixes

-- `locallyAddedAssertions`, likewise
abbrev pub IsAssertionPart : Version → Data → Assertions → Type 0
IsAssertionPart One d assertions = HasArrays (codes "bgpsecAssertions" ∷ codes "prefixAssertions" ∷ []) d × (assertions.attestations ≡ [])
    × ArrayIs IsPrefixAssertion (codes "prefixAssertions") d assertions.prefixes
IsAssertionPart Two d assertions = HasArrays (codes "aspaAssertions" ∷ codes "bgpsecAssertions" ∷ codes "prefixAssertions" ∷ []) d
    × ArrayIs IsAssertion (codes "aspaAssertions") d assertions.attestations
    × ArrayIs IsPrefixAssertion (codes "prefixAssertions") d assertions.prefixes

-- the tree has the form of this version, and says this
pub record IsFile (version : Version) (d : Data) (form : Form) : Type 0 where
  pub only : has_only (codes "locallyAddedAssertions" ∷ codes "slurmVersion" ∷ codes "validationOutputFilters" ∷ []) d ≡ true
  pub filters : MemberIs (IsFilterPart version) (codes "validationOutputFilters") d form.filters
  pub assertions : MemberIs (IsAssertionPart version) (codes "locallyAddedAssertions") d form.assertions

-- how the code's drafts are seen (of private functions)
abbrev pub assertion_view : DraftAssertion → Assertion
assertion_view a = record { customer = number_view a.customer; providers = map number_view a.providers.items }

abbrev pub prefix_filter_view : DraftPrefixFilter → PrefixFilterText
prefix_filter_view f = record { prefix = text_view f.prefix; asn = option_map number_view f.asn }

abbrev pub prefix_assertion_view : DraftPrefixAssertion → PrefixAssertionText
prefix_assertion_view a = record { prefix = a.prefix.items; asn = number_view a.asn; max = option_map number_view a.max }

abbrev pub prefix_assertions_view : Vec DraftPrefixAssertion Global → List PrefixAssertionText
prefix_assertions_view v = map prefix_assertion_view v.items

abbrev pub filters_view : DraftPart Number DraftPrefixFilter → Filters
filters_view f = record { customers = map number_view f.aspas.items; prefixes = map prefix_filter_view f.prefixes.items }

abbrev pub added_view : DraftPart DraftAssertion DraftPrefixAssertion → Assertions
added_view a = record { attestations = map assertion_view a.aspas.items; prefixes = map prefix_assertion_view a.prefixes.items }

abbrev pub draft_view : Draft → Form
draft_view d = record { filters = filters_view d.filters; assertions = added_view d.assertions }
