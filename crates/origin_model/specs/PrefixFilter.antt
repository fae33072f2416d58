-- The prefix filters of a SLURM file (RFC 8416, section 3.3.1).
use Rattle.std.specs.Prelude.{◌≡◌, ℕ, ◌⊎◌, List, [], ◌∷◌}
use Rattle.std.specs.declared.option.Option.{Option}
use Rattle.std.specs.declared.option.Option.TheVariants.{Some, None}
use Rattle.path_model.specs.Prefix.{Subnet}
use Rattle.origin_model.specs.declared.prefix_filter.PrefixFilter.{PrefixFilter}
use Rattle.origin_model.specs.Covering.{Covers}
use Rattle.origin_model.specs.Vrp.{Payload}

-- the filter's prefix, if it has one, covers the payload's
abbrev pub AgreesInPrefix : Option Subnet → Payload → Type 0
AgreesInPrefix None v = Unit {0}
AgreesInPrefix (Some prefix) v = Covers prefix v.prefix

-- the filter's AS, if it has one, is the payload's
abbrev pub AgreesInAsn : Option ℕ → Payload → Type 0
AgreesInAsn None v = Unit {0}
AgreesInAsn (Some asn) v = asn ≡ v.asn

-- a filter hits a payload where both of its parts agree
pub record Hits (f : PrefixFilter) (v : Payload) : Type 0 where
  pub prefix : AgreesInPrefix f.prefix v
  pub asn : AgreesInAsn f.asn v

-- some filter hits it
abbrev pub IsHit : List PrefixFilter → Payload → Type 0
IsHit [] v = ⊥
IsHit (f ∷ fs) v = Hits f v ⊎ IsHit fs v
