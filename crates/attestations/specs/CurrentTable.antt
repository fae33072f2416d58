-- The table that holds now, of all that attests.
use Rattle.std.specs.Prelude.{◌≡◌, ◌≢◌, ℕ, true, false, ◌⊎◌, List, [], ◌∷◌}
use Rattle.std.specs.List.Sorted.{IsStrictlyIncreasing}
use Rattle.std.specs.FinMap as map
use Rattle.std.specs.declared.option.Option.{Option}
use Rattle.std.specs.declared.option.Option.TheVariants.{Some, None}
use Rattle.path_model.specs.Authority.{Table, has}
use Rattle.path_model.specs.Rows.{RowMap}
use Rattle.attestations.specs.declared.term.Term.{Term}
use Rattle.attestations.specs.Terms.{SetOfTerms, TermMap, is_alive, terms_or_none}

-- What the current table is made of: the moment for which it is made; the attestations of each named source under its name; the customers
-- that a SLURM file filters out and those filtered out by hand; the rows that a SLURM file asserts, and those asserted by hand, which never
-- end. Filters and assertions are in the manner of RFC 8416, section 3; by customer they are this project's own.
pub record Parts : Type 0 where
  pub moment : ℕ
  pub sources : List (List ℕ × TermMap)
  pub slurm_filters : List ℕ
  pub slurm_assertions : RowMap
  pub filters : List ℕ
  pub assertions : RowMap

-- at the start there is nothing, and the moment is 0
abbrev pub no_parts : Parts
no_parts = record { moment = 0; sources = []; slurm_filters = []; slurm_assertions = map.empty; filters = []; assertions = map.empty }

-- one of these attestations has this row, and is alive at the moment
pub record HasAlive (moment : ℕ) (terms : SetOfTerms) (row : List ℕ) : Type 0 where
  pub term : Term
  pub attested : map.contains_key terms term ≡ true
  pub alive : is_alive moment term.until ≡ true
  pub is_row : term.providers ≡ row

-- some of these sources has an alive attestation of the customer with this row
abbrev pub IsAttested : ℕ → List (List ℕ × TermMap) → ℕ → List ℕ → Type 0
IsAttested moment [] x row = ⊥
IsAttested moment (source ∷ more) x row = HasAlive moment (terms_or_none (map.get source.1 x)) row ⊎ IsAttested moment more x row

-- This row goes into the customer's current one: a source has an alive attestation of it and no filter has the customer, or it is asserted.
-- Filters don't touch assertions.
abbrev pub GoesIn : Parts → ℕ → List ℕ → Type 0
GoesIn parts x row =
    ((has parts.slurm_filters x ≡ false) × (has parts.filters x ≡ false) × IsAttested parts.moment parts.sources x row)
    ⊎ ((map.get parts.slurm_assertions x ≡ Some row) ⊎ (map.get parts.assertions x ≡ Some row))

-- The union of all rows that go in, less 0, which names no provider (draft-ietf-sidrops-aspa-profile: AS 0 as the only provider says that
-- the customer has none).
pub record IsUnion (Goes : List ℕ → Type 0) (row : List ℕ) : Type 0 where
  pub some : (given : List ℕ) × Goes given
  pub ascending : IsStrictlyIncreasing row
  pub within : (y : ℕ) → has row y ≡ true → (y ≢ 0) × ((given : List ℕ) × Goes given × (has given y ≡ true))
  pub all : (y : ℕ) (given : List ℕ) → y ≢ 0 → Goes given → has given y ≡ true → has row y ≡ true

-- the row of a customer in the current table: none where no row goes in
abbrev pub IsCurrentRow : Parts → ℕ → Option (List ℕ) → Type 0
IsCurrentRow parts x None = (given : List ℕ) → ¬ GoesIn parts x given
IsCurrentRow parts x (Some row) = IsUnion (GoesIn parts x) row

-- the current table: each customer's row is the current one
abbrev pub IsCurrentTable : Parts → Table → Type 0
IsCurrentTable parts table = (x : ℕ) → IsCurrentRow parts x (table x)

-- the one current table of these parts
pub record HasOneTable (parts : Parts) : Type 0 where
  pub table : Table
  pub current : IsCurrentTable parts table
  pub only : (other : Table) → IsCurrentTable parts other → (x : ℕ) → other x ≡ table x

-- any parts have exactly one current table
abbrev pub PartsHaveOneTable : Type 0
PartsHaveOneTable = (parts : Parts) → HasOneTable parts
