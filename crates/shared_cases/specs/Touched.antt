-- Which cases another table or other roles touch.
use Rattle.std.specs.Prelude.{◌≡◌, ◌≢◌, ◌≤◌, ⊤, ℕ, true, List, [], ◌∷◌, length, All, ◌⊎◌}
use Rattle.path_model.specs.declared.role.Role.{Role}
use Rattle.path_model.specs.Authority.{Table, authority_of}
use Rattle.path_model.specs.Roles.{Relations, role_of}
use Rattle.path_model.specs.Trail.{Path}
use Rattle.hop_index.specs.Hops.{AreNeighbours}
use Rattle.shared_cases.specs.Cases.{Slots, at, IsStoredAs}
use Rattle.shared_cases.specs.Grounds.{Grounds, has_own}

-- one of two neighbours in the chain attests another thing of the other one than before
pub record IsTouchedChain (old new : Table) (chain : List ℕ) : Type 0 where
  pub x : ℕ
  pub y : ℕ
  pub neighbours : AreNeighbours chain x y
  pub changed : authority_of old x y ≢ authority_of new x y

-- the role of the peer AS is another one, or what is attested at some hop of the path
abbrev pub IsTouched : Grounds → Grounds → ℕ × Path → Type 0
IsTouched old new pair =
    (role_of old.roles pair.0 ≢ role_of new.roles pair.0) ⊎ IsTouchedChain old.table new.table pair.1.chain

-- no two are the same
abbrev pub AreApart : {A : Type 0} → List A → Type 0
AreApart [] = ⊤
AreApart (p ∷ ps) = All (λ q. p ≢ q) ps × AreApart ps

-- there is a case of this peer AS and path, and it is touched
pub record IsTouchedCase (old new : Grounds) (cases : Slots) (pair : ℕ × Path) : Type 0 where
  pub number : ℕ
  pub stored : IsStoredAs (at cases number) pair.0 pair.1
  pub touched : IsTouched old new pair

-- no more than there are distinct pairs of a peer AS and a path of touched cases
pub record AreWithinTouched (old new : Grounds) (cases : Slots) (ticks : ℕ) : Type 0 where
  pub pairs : List (ℕ × Path)
  pub apart : AreApart pairs
  pub each : All (IsTouchedCase old new cases) pairs
  pub within : ticks ≤ length pairs

-- this AS had this role, and has one of its own; the role of no other AS is another one, and who had one of its own has it still
pub record IsRoleMove (asn : ℕ) (before : Role) (old new : Relations) : Type 0 where
  pub here : role_of old asn ≡ before
  pub others : (other : ℕ) → other ≢ asn → role_of old other ≡ role_of new other
  pub own : has_own new asn ≡ true
  pub kept : (other : ℕ) → has_own old other ≡ true → has_own new other ≡ true
