-- Laws of states and of covering, each the contract of a public function of the module `laws`.
use Rattle.std.specs.Prelude.{◌≡◌, ◌≤◌, true, Bool, ◌⊎◌, List, []}
use Rattle.av_base.specs.One.{HasOne}
use Rattle.path_model.specs.declared.key.Key.{Key}
use Rattle.path_model.specs.Prefix.{Subnet, IsSubnet, bits_of}
use Rattle.path_model.specs.Trail.{Path}
use Rattle.origin_model.specs.declared.origin_state.OriginState.TheVariants.{Valid, Invalid}
use Rattle.origin_model.specs.Covering.{Covers}
use Rattle.origin_model.specs.Current.{Parts, IsCurrent}
use Rattle.origin_model.specs.OriginState.{Covering, IsStateOf}
use Rattle.origin_model.specs.Vrp.{Payload}
use Rattle.origin_model.specs.VrpChanges.{Patches}

-- each route has exactly one state
abbrev pub EachRouteHasOneState : Type 0
EachRouteHasOneState = (parts : Parts) (key : Key) (path : Path) → HasOne (IsStateOf parts key path)

-- all current payloads that cover the prefix are of AS 0, and there is one
pub record IsKeptFromAll (parts : Parts) (prefix : Subnet) : Type 0 where
  pub some : Covering (IsCurrent parts) prefix
  pub all : (v : Payload) → IsCurrent parts v → Covers v.prefix prefix → v.asn ≡ 0

-- what AS 0 alone may originate is invalid
abbrev pub As0MakesNothingValid : Type 0
As0MakesNothingValid = (parts : Parts) (key : Key) (path : Path) → IsKeptFromAll parts key.prefix → IsStateOf parts key path Invalid

-- not valid, and invalid where a current payload covers it
pub record IsNeverValid (parts : Parts) (key : Key) (path : Path) : Type 0 where
  pub never : ¬ IsStateOf parts key path Valid
  pub invalid : Covering (IsCurrent parts) key.prefix → IsStateOf parts key path Invalid

-- a route whose path has a set or no AS is never valid
abbrev pub RoutesWithoutOriginAreNeverValid : Type 0
RoutesWithoutOriginAreNeverValid = (parts : Parts) (key : Key) (path : Path) → (path.set ≡ true) ⊎ (path.chain ≡ []) → IsNeverValid parts key path

-- Each prefix covers itself, and what those cover that it covers, and none of the other family; of two that cover a third one, the shorter
-- covers the longer; two that cover each other are one.
pub record CoveringIsAnOrder : Type 0 where
  pub itself : (p : Subnet) → IsSubnet p → Covers p p
  pub through : (p q r : Subnet) → Covers p q → Covers q r → Covers p r
  pub between : (p q r : Subnet) → Covers p r → Covers q r → p.len ≤ q.len → Covers p q
  pub only : (p q : Subnet) → IsSubnet q → Covers p q → Covers q p → p ≡ q
  pub family : (p q : Subnet) → Covers p q → bits_of p.addr ≡ bits_of q.addr

-- changes make exactly one set of payloads
abbrev pub ChangesMakeOneSet : Type 0
ChangesMakeOneSet = (changes : List (Payload × Bool)) (before : List Payload) → HasOne (Patches changes before)
