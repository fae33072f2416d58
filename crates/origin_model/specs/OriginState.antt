-- The state of a route by its origin (RFC 6811, section 2).
use Rattle.std.specs.Prelude.{◌≡◌, ◌≢◌, ℕ, ◌≤◌, if◌then◌else◌}
use Rattle.std.specs.List.{slice_get}
use Rattle.std.specs.declared.option.Option.{Option}
use Rattle.std.specs.declared.option.Option.TheVariants.{Some, None}
use Rattle.path_model.specs.declared.key.Key.{Key}
use Rattle.path_model.specs.Prefix.{Subnet}
use Rattle.path_model.specs.Trail.{Path}
use Rattle.origin_model.specs.declared.origin_state.OriginState.{OriginState}
use Rattle.origin_model.specs.declared.origin_state.OriginState.TheVariants.{Valid, Invalid, NotFound}
use Rattle.origin_model.specs.Covering.{Covers}
use Rattle.origin_model.specs.Current.{Parts, IsCurrent}
use Rattle.origin_model.specs.Vrp.{Payload}

-- The origin of a path: the first AS of its chain, and none where the path has a set or no AS. RFC 6811 has none where the last segment is a
-- set; that a set anywhere leaves none is this project's own, as is an empty path's.
abbrev pub origin_of : Path → Option ℕ
origin_of path = if path.set then None else slice_get path.chain 0

-- A payload matches a route: it covers the route's prefix, which isn't longer than its maximum, and its AS is the route's origin. AS 0
-- matches none.
pub record Matches (v : Payload) (prefix : Subnet) (origin : Option ℕ) : Type 0 where
  pub covers : Covers v.prefix prefix
  pub short : prefix.len ≤ v.max
  pub somebody : v.asn ≢ 0
  pub from : origin ≡ Some v.asn

-- one of the payloads of which something is so matches the route
pub record Matching (Is : Payload → Type 0) (prefix : Subnet) (origin : Option ℕ) : Type 0 where
  pub payload : Payload
  pub is : Is payload
  pub matches : Matches payload prefix origin

-- one of them covers it
pub record Covering (Is : Payload → Type 0) (prefix : Subnet) : Type 0 where
  pub payload : Payload
  pub is : Is payload
  pub covers : Covers payload.prefix prefix

-- The state by the payloads of which this is so: Valid where one matches; else Invalid where one covers; else NotFound.
abbrev pub HasState : (Payload → Type 0) → Subnet → Option ℕ → OriginState → Type 0
HasState Is prefix origin Valid = Matching Is prefix origin
HasState Is prefix origin Invalid = (¬ Matching Is prefix origin) × Covering Is prefix
HasState Is prefix origin NotFound = ¬ Covering Is prefix

-- the state of a route by the current payloads
abbrev pub IsStateOf : Parts → Key → Path → OriginState → Type 0
IsStateOf parts key path state = HasState (IsCurrent parts) key.prefix (origin_of path) state

-- the better of two states: Valid before Invalid before NotFound
abbrev pub better : OriginState → OriginState → OriginState
better Valid t = Valid
better Invalid Valid = Valid
better Invalid Invalid = Invalid
better Invalid NotFound = Invalid
better NotFound t = t
