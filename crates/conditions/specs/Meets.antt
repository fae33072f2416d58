-- Conditions on routes, and which routes meet them.
use Rattle.std.specs.Prelude.{ℕ, nat_eq, nat_le, Bool, true, false, ◌&&◌}
use Rattle.std.specs.BTreeMap.{is_at}
use Rattle.std.specs.declared.option.Option.{Option}
use Rattle.std.specs.declared.option.Option.TheVariants.{Some, None}
use Rattle.path_model.specs.declared.addr.Addr.{Addr}
use Rattle.path_model.specs.declared.key.Key.{Key}
use Rattle.path_model.specs.declared.verdict.Verdict.{Verdict}
use Rattle.path_model.specs.declared.verdict.Verdict.TheVariants.{Valid, Unknown, Invalid}
use Rattle.path_model.specs.Authority.{has}
use Rattle.path_model.specs.Prefix.{Subnet, addr_cmp, prefix_of, subnet_cmp}
use Rattle.path_model.specs.Trail.{Path}
use Rattle.origin_model.specs.OriginState.{origin_of}
use Rattle.conditions.specs.declared.asked.Conditions.{Conditions}

-- ---- two of a kind are one

abbrev pub same_verdict : Verdict → Verdict → Bool
same_verdict Valid Valid = true
same_verdict Valid Unknown = false
same_verdict Valid Invalid = false
same_verdict Unknown Valid = false
same_verdict Unknown Unknown = true
same_verdict Unknown Invalid = false
same_verdict Invalid Valid = false
same_verdict Invalid Unknown = false
same_verdict Invalid Invalid = true

abbrev pub same_prefix : Option Subnet → Subnet → Bool
same_prefix None q = false
same_prefix (Some p) q = is_at (subnet_cmp p) q

-- the origin is this AS
abbrev pub is_asn : Option ℕ → ℕ → Bool
is_asn None asn = false
is_asn (Some origin) asn = nat_eq origin asn

-- Whether the first prefix covers the second: it isn't longer, and it is what the second one's address begins with.
abbrev pub is_covered : Subnet → Subnet → Bool
is_covered p q = nat_le p.len q.len && same_prefix (prefix_of q.addr p.len) p

-- ---- each condition: whether a route meets it, where it is given

abbrev pub given : {A : Type 0} → (A → Bool) → Option A → Bool
given test None = true
given test (Some asked) = test asked

-- the route has the verdict
abbrev pub has_verdict : Option Verdict → Verdict → Bool
has_verdict asked verdict = given (λ v. same_verdict v verdict) asked

-- its peer's AS is this one
abbrev pub is_of_peer : Option ℕ → ℕ → Bool
is_of_peer asked asn = given (λ a. nat_eq a asn) asked

-- its peer's address is
abbrev pub is_from : Option Addr → Addr → Bool
is_from asked addr = given (λ a. is_at (addr_cmp a) addr) asked

-- its prefix is
abbrev pub is_prefix : Option Subnet → Subnet → Bool
is_prefix asked prefix = given (λ p. is_at (subnet_cmp p) prefix) asked

-- its prefix is this one, or one that this one covers
abbrev pub is_within : Option Subnet → Subnet → Bool
is_within asked prefix = given (λ p. is_covered p prefix) asked

-- its prefix is this one, or one that covers this one
abbrev pub is_covering : Option Subnet → Subnet → Bool
is_covering asked prefix = given (λ p. is_covered prefix p) asked

-- its origin is this AS; a path with an AS_SET or without an AS has none
abbrev pub has_origin : Option ℕ → Path → Bool
has_origin asked path = given (is_asn (origin_of path)) asked

-- this AS is one of its chain, which a path with an AS_SET has too
abbrev pub is_through : Option ℕ → Path → Bool
is_through asked path = given (has path.chain) asked

-- ---- all of them

-- a route with this key, verdict and path meets all
abbrev pub meets : Conditions → Key → Verdict → Path → Bool
meets conditions key verdict path =
    has_verdict conditions.verdict verdict
    && is_of_peer conditions.peer key.peer.asn
    && is_from conditions.from key.peer.addr
    && is_prefix conditions.prefix key.prefix
    && is_within conditions.within key.prefix
    && is_covering conditions.covering key.prefix
    && has_origin conditions.origin path
    && is_through conditions.through path

-- the conditions that ask for a verdict, or for all routes, and those that do for all
abbrev pub of_verdict : Option Verdict → Conditions
of_verdict verdict = record {
  verdict = verdict;
  peer = None;
  from = None;
  prefix = None;
  within = None;
  covering = None;
  origin = None;
  through = None;
}

abbrev pub no_conditions : Conditions
no_conditions = of_verdict None
