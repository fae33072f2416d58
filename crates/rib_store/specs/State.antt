-- What an analysis has come to: all that attests, the roles, the routes, and the verdicts that were marked.
use Rattle.std.specs.Prelude.{◌≡◌, List, map, All, Some}
use Rattle.std.specs.FinMap as fin
use Rattle.path_model.specs.declared.key.Key.{Key}
use Rattle.path_model.specs.declared.verdict.Verdict.{Verdict}
use Rattle.path_model.specs.Authority.{Table}
use Rattle.attestations.specs.CurrentTable.{Parts, no_parts, IsCurrentTable}
use Rattle.path_model.specs.Key.{key_cmp}
use Rattle.path_model.specs.RightVerdict.{IsRight}
use Rattle.path_model.specs.Roles.{Relations, role_of, no_roles}
use Rattle.path_model.specs.Routes.{Routes}
use Rattle.path_model.specs.Trail.{Path}

-- the verdict that was marked of each key that had a route then
abbrev pub Marked : Type 0
Marked = fin.FinMap key_cmp Verdict

pub record State : Type 0 where
  pub parts : Parts
  pub roles : Relations
  pub routes : Routes
  pub marked : Marked

-- at the start there is nothing
abbrev pub no_state : State
no_state = record { parts = no_parts; roles = no_roles; routes = fin.empty; marked = fin.empty }

-- The current verdict of a route: the right one of its path, by the current table of the parts, for its peer's AS as neighbour, in the
-- role of that AS.
pub record IsCurrent (state : State) (key : Key) (verdict : Verdict) : Type 0 where
  pub path : Path
  pub route : fin.get state.routes key ≡ Some path
  pub table : Table
  pub current : IsCurrentTable state.parts table
  pub right : IsRight table (role_of state.roles key.peer.asn) key.peer.asn path verdict

-- one row for each route in key order, with its current verdict
pub record AreRows (state : State) (rows : List (Key × Verdict)) : Type 0 where
  pub keys : map (λ row. row.0) rows ≡ fin.keys state.routes
  pub current : All (λ row. IsCurrent state row.0 row.1) rows
