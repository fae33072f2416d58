-- What the customers of the workload attest.
use Rattle.std.specs.Prelude.{◌≡◌, ℕ, suc, nat_eq, List, [], ◌∷◌, if◌then◌else◌}
use Rattle.std.specs.declared.option.Option.{Option}
use Rattle.std.specs.declared.option.Option.TheVariants.{Some, None}
use Rattle.std.specs.FinMap as map
use Rattle.rand_pcg.specs.Lcg.{Lcg}
use Rattle.path_model.specs.Rows.{RowMap, SetsRow, IsRowOf}
use Rattle.stated_workload.specs.Draws.{Draws, DrawsAll, DrawsAs}

-- the providers of a customer: up to three, perhaps the customer itself, perhaps one twice
pub record DrawsProviders (old : Lcg) (providers : List ℕ) (new : Lcg) : Type 0 where
  pub count : ℕ
  pub counted : Lcg
  pub count_drawn : Draws 4 old count counted
  pub providers_drawn : DrawsAll (λ _. DrawsAs) count counted providers new

-- no providers are no attestation
abbrev pub if_some : List ℕ → Option (List ℕ)
if_some [] = None
if_some (x ∷ xs) = Some (x ∷ xs)

-- what customer x attests, where the first of these lists is that of the customer `first`, and each other one that of the next
abbrev pub given_in : ℕ → List (List ℕ) → ℕ → Option (List ℕ)
given_in first [] x = None
given_in first (providers ∷ lists) x = if nat_eq x first then if_some providers else given_in (suc first) lists x

-- the rows of the customers from 1 on
pub record DrawsRows (customers : ℕ) (old : Lcg) (rows : RowMap) (new : Lcg) : Type 0 where
  pub lists : List (List ℕ)
  pub drawn : DrawsAll (λ _. DrawsProviders) customers old lists new
  pub are : (x : ℕ) → IsRowOf (given_in 1 lists x) (map.get rows x)

-- ---- how rows are gathered; private contracts alone cite this part

abbrev pub Keeps : List ℕ → RowMap → ℕ → RowMap → Type 0
Keeps [] old customer new = new ≡ old
Keeps (x ∷ xs) old customer new = SetsRow old customer (x ∷ xs) new

-- the row of a customer is set, unless it has no providers
pub record KeepsRow (old : RowMap) (customer : ℕ) (providers : List ℕ) (new : RowMap) : Type 0 where
  pub keeps : Keeps providers old customer new
