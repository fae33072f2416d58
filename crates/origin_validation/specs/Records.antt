-- What changes of the parts of which the current payloads are made; and parts of changes and of a look-up, which private contracts alone cite.
use Rattle.std.specs.Prelude.{◌≡◌, ◌≤◌, ℕ, Bool, true, cond, List, []}
use Rattle.std.specs.BTreeMap.{insert_entry, is_at}
use Rattle.std.specs.Cmp.Lexicographic.{slice_cmp}
use Rattle.std.specs.Map.{lookup}
use Rattle.std.specs.Ordering.{nat_cmp}
use Rattle.std.specs.declared.option.Option.{Option}
use Rattle.std.specs.declared.option.Option.TheVariants.{Some, None}
use Rattle.path_model.specs.Prefix.{Subnet}
use Rattle.origin_model.specs.declared.prefix_filter.PrefixFilter.{PrefixFilter}
use Rattle.origin_model.specs.Current.{Parts, IsGiven}
use Rattle.origin_model.specs.PrefixFilter.{IsHit}
use Rattle.origin_model.specs.Vrp.{Payload, payload_cmp, payload_of}
use Rattle.origin_model.specs.VrpChanges.{Patches}
use Rattle.origin_model.specs.VrpSet.{has}

-- the payloads of the source of this name, if there is one
abbrev pub source_of : List (List ℕ × List Payload) → List ℕ → Option (List Payload)
source_of sources name = lookup (is_at (slice_cmp nat_cmp name)) sources

-- what there was, or nothing
abbrev pub or_none : Option (List Payload) → List Payload
or_none None = []
or_none (Some payloads) = payloads

-- the source of this name has these payloads from now on
abbrev pub with_source : Parts → List ℕ → List Payload → Parts
with_source parts name payloads = record parts { sources = insert_entry (slice_cmp nat_cmp) parts.sources name payloads }

-- the source of this name has what the changes make of the payloads that it had, or of none
pub record PatchesSource (before : Parts) (name : List ℕ) (changes : List (Payload × Bool)) (after : Parts) : Type 0 where
  pub payloads : List Payload
  pub patches : Patches changes (or_none (source_of before.sources name)) payloads
  pub puts : after ≡ with_source before name payloads

-- ---- parts of changes, which private contracts alone cite

-- the payload is among these where it was announced, and isn't where it was withdrawn; and each other one as before
abbrev pub HasAsSaid : List Payload → Payload → Bool → List Payload → Type 0
HasAsSaid before v announced after = (q : Payload) → has after q ≡ cond (is_at (payload_cmp v) q) announced (has before q)

-- ---- parts of a look-up

-- some source has it, and no filter hits it
abbrev pub IsGivenUnhit : List (List ℕ × List Payload) → List PrefixFilter → Payload → Type 0
IsGivenUnhit sources filters v = IsGiven sources v × (¬ IsHit filters v)

-- it is among these, and no filter hits it;
abbrev pub IsUnhit : List Payload → List PrefixFilter → Payload → Type 0
IsUnhit payloads filters v = (has payloads v ≡ true) × (¬ IsHit filters v)

-- and its prefix isn't longer than this,
abbrev pub IsUnhitUpTo : List Payload → List PrefixFilter → ℕ → Payload → Type 0
IsUnhitUpTo payloads filters len v = (v.prefix.len ≤ len) × IsUnhit payloads filters v

-- or its prefix is this one
abbrev pub IsUnhitIn : List Payload → List PrefixFilter → Subnet → Payload → Type 0
IsUnhitIn payloads filters front v = (v.prefix ≡ front) × IsUnhit payloads filters v

-- there is one with this prefix
pub record HasUnhitIn (payloads : List Payload) (filters : List PrefixFilter) (front : Subnet) : Type 0 where
  pub payload : Payload
  pub is : IsUnhitIn payloads filters front payload

-- the one of this prefix, maximum and AS is, and the maximum is at least so many bits
pub record AllowsOf (payloads : List Payload) (filters : List PrefixFilter) (front : Subnet) (len asn max : ℕ) : Type 0 where
  pub reaches : len ≤ max
  pub is : IsUnhit payloads filters (payload_of front max asn)

-- for some maximum
pub record Allows (payloads : List Payload) (filters : List PrefixFilter) (front : Subnet) (len asn : ℕ) : Type 0 where
  pub max : ℕ
  pub of : AllowsOf payloads filters front len asn max

-- it is this payload, and no filter hits it
abbrev pub IsUnhitOne : Payload → List PrefixFilter → Payload → Type 0
IsUnhitOne one filters v = (v ≡ one) × (¬ IsHit filters v)
