-- Who is suspected of leaks: the valleys of the routes that no completion makes valid, and how many routes have each.
use Rattle.std.specs.Prelude.{ℕ, List}
use Rattle.std.specs.declared.option.Option.{Option}
use Rattle.path_model.specs.declared.verdict.Verdict.TheVariants.{Invalid}
use Rattle.path_model.specs.declared.witness.Witness.TheVariants.{Blocked}
use Rattle.path_model.specs.Authority.{Table}
use Rattle.attestations.specs.CurrentTable.{IsCurrentTable}
use Rattle.path_model.specs.Labelling.{direction_of}
use Rattle.path_model.specs.PrintedWitness.{IsPrinted}
use Rattle.path_model.specs.Roles.{Relations, role_of}
use Rattle.path_model.specs.Trail.{Path}
use Rattle.rib_store.specs.State.{State}
use Rattle.valleys.specs.declared.valley.Valley.{Valley}
use Rattle.valleys.specs.Order.{valley_cmp}
use Rattle.valleys.specs.Valleys.{HasValley}
use Rattle.listings.specs.declared.tally.Tally.{Tally}
use Rattle.listings.specs.Tallies.{AreTallied}

-- In the role of the AS, the printed witness of the path from it is `Blocked`, so that no completion makes it valid, and it has the valley.
pub record IsBlockedWith (table : Table) (roles : Relations) (valley : Valley) (asn : ℕ) (path : Path) : Type 0 where
  pub first : ℕ
  pub last : Option ℕ
  pub printed : IsPrinted table (role_of roles asn) asn path Invalid (Blocked first last)
  pub has : HasValley table (direction_of (role_of roles asn)) path.chain valley

-- By the current table, each valley that some route has so, once, in ascending order, with its tally.
pub record AreSuspects (state : State) (rows : List (Valley × Tally)) : Type 0 where
  pub table : Table
  pub current : IsCurrentTable state.parts table
  pub tallied : AreTallied valley_cmp (IsBlockedWith table state.roles) state rows
