-- The union of attestations per customer, whatever their order.
use Rattle.std.specs.Prelude.{◌≡◌, ℕ, ◌⊎◌, List, [], ◌∷◌, None, Some}
use Rattle.std.specs.FinMap as map
use Rattle.std.specs.List.{Contains}
use Rattle.std.specs.List.Sorted.{IsStrictlyIncreasing}
use Rattle.std.specs.declared.option.Option.{Option}
use Rattle.path_model.specs.Rows.{RowMap}

-- the customer attests these providers
pub record Attestation : Type 0 where
  pub customer : ℕ
  pub providers : List ℕ

-- some of them is this customer's
abbrev pub Names : List Attestation → ℕ → Type 0
Names [] customer = ⊥
Names (a ∷ more) customer = (a.customer ≡ customer) ⊎ Names more customer

-- some of them is this customer's and has this provider
abbrev pub Gives : List Attestation → ℕ → ℕ → Type 0
Gives [] customer provider = ⊥
Gives (a ∷ more) customer provider = ((a.customer ≡ customer) × Contains a.providers provider) ⊎ Gives more customer provider

-- the ascending list of exactly those providers that some attestation of this customer has
pub record IsUnionOf (attestations : List Attestation) (customer : ℕ) (row : List ℕ) : Type 0 where
  pub some : Names attestations customer
  pub ascending : IsStrictlyIncreasing row
  pub within : (provider : ℕ) → Contains row provider → Gives attestations customer provider
  pub all : (provider : ℕ) → Gives attestations customer provider → Contains row provider

-- no row where none of them is this customer's, and else their union
abbrev pub IsUnitedRow : List Attestation → ℕ → Option (List ℕ) → Type 0
IsUnitedRow attestations customer None = Names attestations customer → ⊥
IsUnitedRow attestations customer (Some row) = IsUnionOf attestations customer row

-- each customer's row is the union of its attestations
abbrev pub AreUnited : List Attestation → RowMap → Type 0
AreUnited attestations rows = (customer : ℕ) → IsUnitedRow attestations customer (map.get rows customer)
