-- What the capabilities of an OPEN tell of the neighbour that sent it.
use Rattle.std.specs.Prelude.{◌≡◌, ℕ, ◌==◌, if◌then◌else◌, List, [], ◌∷◌, Some, None}
use Rattle.std.specs.declared.option.Option.{Option}
use Rattle.std.specs.List.{Contains}
use Rattle.path_model.specs.declared.role.Role.{Role}
use Rattle.path_model.specs.declared.role.Role.TheVariants.{Provider, Customer, Peer, Rs, RsClient}
use Rattle.bmp_reader.specs.Opens.{Triple}

-- the role of who sent the capability, by its value (RFC 9234, section 4.1)
abbrev pub role_of_value : ℕ → Option Role
role_of_value value =
    if value == 0 then Some Provider else (if value == 1 then Some Rs else (if value == 2 then Some RsClient else (if value == 3 then Some Customer else (if value == 4 then Some Peer else None))))

-- the capability BGP Role with this value: code 9, and one byte (RFC 9234, section 4.1)
abbrev pub role_capability : ℕ → Triple
role_capability value = record { code = 9; value = value ∷ [] }

-- The role of this value is told: by some capability BGP Role, and by none another value.
pub record TellsValue (capabilities : List Triple) (value : ℕ) : Type 0 where
  pub some : Contains capabilities (role_capability value)
  pub only : (other : ℕ) → Contains capabilities (role_capability other) → other ≡ value

-- the role that capabilities tell; none, where they tell no value, or one that is no role's
abbrev pub TellsRole : List Triple → Option Role → Type 0
TellsRole capabilities (Some role) = (value : ℕ) × TellsValue capabilities value × (role_of_value value ≡ Some role)
TellsRole capabilities None = (value : ℕ) (role : Role) → TellsValue capabilities value → role_of_value value ≡ Some role → ⊥

-- the capability ADD-PATH is there: code 69, with any value (RFC 7911, section 4)
abbrev pub HasPaths : List Triple → Type 0
HasPaths capabilities = (value : List ℕ) × Contains capabilities (record { code = 69; value = value })
