-- Who should attest next: the ASes without a row that unknown routes ask about, and how many routes ask about each.
use Rattle.std.specs.Prelude.{◌≡◌, ◌<◌, ◌+◌, ◌⊎◌, ℕ, List, length, slice_index}
use Rattle.std.specs.Ordering.{nat_cmp}
use Rattle.std.specs.declared.option.Option.TheVariants.{None}
use Rattle.path_model.specs.declared.role.Direction.{Direction}
use Rattle.path_model.specs.declared.role.Direction.TheVariants.{Up, Down}
use Rattle.path_model.specs.declared.verdict.Verdict.TheVariants.{Unknown}
use Rattle.path_model.specs.Authority.{Table}
use Rattle.path_model.specs.Labelling.{direction_of}
use Rattle.path_model.specs.RightVerdict.{IsRight}
use Rattle.path_model.specs.Roles.{Relations, role_of}
use Rattle.path_model.specs.Trail.{Path}
use Rattle.attestations.specs.CurrentTable.{IsCurrentTable}
use Rattle.rib_store.specs.State.{State}
use Rattle.report_text.specs.declared.silent.SilentAs.{SilentAs}
use Rattle.report_text.specs.Silent.{silent_text}
use Rattle.listings.specs.declared.tally.Tally.{Tally}
use Rattle.listings.specs.Tallies.{AreTallied}

-- a hop of the chain goes from the AS
pub record BeginsHop (chain : List ℕ) (asn : ℕ) : Type 0 where
  pub hop : ℕ
  pub within : hop + 1 < length chain
  pub is : slice_index chain hop ≡ asn

-- a hop of the chain goes to the AS
pub record EndsHop (chain : List ℕ) (asn : ℕ) : Type 0 where
  pub hop : ℕ
  pub within : hop + 1 < length chain
  pub is : slice_index chain (hop + 1) ≡ asn

-- Whom the hops of a chain ask: each the AS from which it climbed, and downstream, where it may have descended, also the one to which it went.
abbrev pub IsAsked : Direction → List ℕ → ℕ → Type 0
IsAsked Up chain asn = BeginsHop chain asn
IsAsked Down chain asn = BeginsHop chain asn ⊎ EndsHop chain asn

-- The AS has no row; and a path from another one is unknown, in that one's role, and asks about it.
pub record IsAskedBy (table : Table) (roles : Relations) (silent : ℕ) (asn : ℕ) (path : Path) : Type 0 where
  pub no_row : table silent ≡ None
  pub unknown : IsRight table (role_of roles asn) asn path Unknown
  pub asked : IsAsked (direction_of (role_of roles asn)) path.chain silent

-- By the current table, each AS that some route asks about so, once, by rising number, with its tally.
pub record AreSilent (state : State) (rows : List (ℕ × Tally)) : Type 0 where
  pub table : Table
  pub current : IsCurrentTable state.parts table
  pub tallied : AreTallied nat_cmp (IsAskedBy table state.roles) state rows

-- an AS, with how many routes and paths ask about it
abbrev pub silent_of : ℕ × Tally → SilentAs
silent_of row = record { asn = row.0; routes = row.1.routes; paths = row.1.paths }

-- and its line
abbrev pub silent_row : ℕ × Tally → List ℕ
silent_row row = silent_text (silent_of row)
