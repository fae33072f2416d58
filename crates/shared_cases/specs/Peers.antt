-- The cases by their peer AS. Private contracts alone cite it.
use Rattle.std.specs.Prelude.{◌≡◌, ◌≢◌, ℕ, nat_eq, Bool, true, false, ◌||◌, ◌&&◌, not, is_some, List, []}
use Rattle.std.specs.declared.option.Option.{Option}
use Rattle.std.specs.declared.option.Option.TheVariants.{Some, None}
use Rattle.std.specs.BTreeMap.{is_at}
use Rattle.std.specs.Map.{lookup}
use Rattle.std.specs.Ordering.{nat_cmp}
use Rattle.path_model.specs.declared.role.Role.{Role}
use Rattle.path_model.specs.Roles.{Relations, role_of}
use Rattle.shared_cases.specs.Numbers.{has}

-- each AS that has cases, in order, with their numbers
abbrev pub Members : Type 0
Members = List (ℕ × List ℕ)

-- these, and those of the ASes that have a case which doesn't say that its AS has a role of its own
pub record ByPeer : Type 0 where
  pub members : Members
  pub defaulted : List ℕ

-- what is found of one AS
abbrev pub found : Members → ℕ → Option (List ℕ)
found members asn = lookup (is_at (nat_cmp asn)) members

-- the number is one of those that are found
abbrev pub found_has : Option (List ℕ) → ℕ → Bool
found_has None n = false
found_has (Some numbers) n = has numbers n

-- the number is one of the AS's
abbrev pub is_member : Members → ℕ → ℕ → Bool
is_member members asn n = found_has (found members asn) n

-- this number of this AS
abbrev pub is_this : ℕ → ℕ → ℕ → ℕ → Bool
is_this a n asn number = nat_eq a asn && nat_eq n number

-- `after` has one number of an AS more, or less
abbrev pub AddsMember : Members → ℕ → ℕ → Members → Type 0
AddsMember before asn number after =
    (a n : ℕ) → is_member after a n ≡ (is_member before a n || is_this a n asn number)

abbrev pub RemovesMember : Members → ℕ → ℕ → Members → Type 0
RemovesMember before asn number after =
    (a n : ℕ) → is_member after a n ≡ (is_member before a n && not (is_this a n asn number))

-- no AS stands there without cases
abbrev pub HaveMembers : Members → Type 0
HaveMembers members = (asn : ℕ) → found members asn ≢ Some []

-- whether the AS has cases
abbrev pub has_cases : Members → ℕ → Bool
has_cases members asn = is_some (found members asn)

-- and each of these ASes has cases
abbrev pub HaveCases : Members → List ℕ → Type 0
HaveCases members ases = (asn : ℕ) → has ases asn ≡ true → has_cases members asn ≡ true

-- the number is one of the AS, whose role is another one
abbrev pub IsMovedMember : Members → ℕ → Role → Role → ℕ → Type 0
IsMovedMember members asn before after n = (is_member members asn n ≡ true) × (before ≢ after)

-- the number is one of an AS whose role is another one
abbrev pub HasMovedMember : Members → Relations → Relations → ℕ → Type 0
HasMovedMember members before after n =
    (asn : ℕ) × IsMovedMember members asn (role_of before asn) (role_of after asn) n
