-- The parts of filters in their order, by which a filter is found: private contracts alone cite it.
use Rattle.std.specs.Prelude.{◌≡◌, ◌≤◌, ℕ, Bool, true, false, ◌||◌, List}
use Rattle.std.specs.BTreeMap.{is_at}
use Rattle.std.specs.List.{list_any}
use Rattle.std.specs.Option.{option_cmp}
use Rattle.std.specs.Ordering.{nat_cmp, ordering_then}
use Rattle.std.specs.declared.cmp.Ordering.{Ordering}
use Rattle.std.specs.declared.option.Option.{Option}
use Rattle.std.specs.declared.option.Option.TheVariants.{Some, None}
use Rattle.path_model.specs.Prefix.{Subnet, prefix_of, subnet_cmp}
use Rattle.origin_model.specs.declared.prefix_filter.PrefixFilter.{PrefixFilter}
use Rattle.origin_model.specs.Vrp.{Payload}

-- a filter's prefix and its AS, each if it has one
abbrev pub FilterParts : Type 0
FilterParts = Option Subnet × Option ℕ

abbrev pub parts_cmp : FilterParts → FilterParts → Ordering
parts_cmp a b = ordering_then (option_cmp subnet_cmp a.0 b.0) (option_cmp nat_cmp a.1 b.1)

-- one of the filters has these parts
abbrev pub has_parts : List PrefixFilter → FilterParts → Bool
has_parts filters parts = list_any (λ (f : PrefixFilter). is_at (parts_cmp parts) (f.prefix, f.asn)) filters

-- the index has the parts of each filter, and no others
pub record IsIndex (filters : List PrefixFilter) (index : List FilterParts) : Type 0 where
  pub same : (parts : FilterParts) → list_any (is_at (parts_cmp parts)) index ≡ has_parts filters parts

-- one of them has this prefix, or none, and this AS or none;
abbrev pub has_either : List PrefixFilter → Option Subnet → ℕ → Bool
has_either filters prefix asn = has_parts filters (prefix, None) || has_parts filters (prefix, Some asn)

-- and this is one of them where the prefix is one
abbrev pub has_front : List PrefixFilter → Option Subnet → ℕ → Bool
has_front filters None asn = false
has_front filters (Some front) asn = has_either filters (Some front) asn

-- one of them has so many bits of the payload's prefix, and its AS or none
pub record HasOf (filters : List PrefixFilter) (v : Payload) (len : ℕ) : Type 0 where
  pub within : len ≤ v.prefix.len
  pub has : has_front filters (prefix_of v.prefix.addr len) v.asn ≡ true

-- for some number of bits
pub record HasWithin (filters : List PrefixFilter) (v : Payload) : Type 0 where
  pub len : ℕ
  pub of : HasOf filters v len
