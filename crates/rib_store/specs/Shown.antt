-- A route as it stands, and all routes as they stand.
use Rattle.std.specs.Prelude.{◌≡◌, List, map, All, Some}
use Rattle.std.specs.FinMap as fin
use Rattle.path_model.specs.declared.key.Key.{Key}
use Rattle.path_model.specs.declared.role.Role.{Role}
use Rattle.path_model.specs.declared.verdict.Verdict.{Verdict}
use Rattle.path_model.specs.declared.witness.Witness.{Witness}
use Rattle.path_model.specs.Authority.{Table}
use Rattle.attestations.specs.CurrentTable.{IsCurrentTable}
use Rattle.path_model.specs.PrintedWitness.{IsPrinted}
use Rattle.path_model.specs.Roles.{role_of}
use Rattle.path_model.specs.Trail.{Path}
use Rattle.path_model.specs.Witness.{Facts}
use Rattle.ramps.specs.Judgement.{Judgement}
use Rattle.rib_store.specs.declared.rib.Shown.{Shown}
use Rattle.rib_store.specs.State.{State, IsCurrent}

-- By the current table and the role of the peer's AS, the witness is the printed one of the key's path, and its facts hold.
pub record IsExplained (state : State) (key : Key) (verdict : Verdict) (witness : Witness) : Type 0 where
  pub path : Path
  pub route : fin.get state.routes key ≡ Some path
  pub table : Table
  pub current : IsCurrentTable state.parts table
  pub printed : IsPrinted table (role_of state.roles key.peer.asn) key.peer.asn path verdict witness
  pub facts : Facts table (role_of state.roles key.peer.asn) key.peer.asn path verdict witness

-- how a path from some AS stands: with the role of the AS, and the verdict with its witness
pub record Standing : Type 0 where
  pub path : Path
  pub role : Role
  pub verdict : Verdict
  pub witness : Witness

-- what is shown, with the path itself
abbrev pub standing : Shown → Standing
standing shown = record { path = shown.trail.now; role = shown.role; verdict = shown.verdict; witness = shown.witness }

-- a path in the role of the AS, as it is judged
abbrev pub standing_in : Role → Path → Judgement → Standing
standing_in role path judged = record { path = path; role = role; verdict = judged.verdict; witness = judged.witness }

-- the path of the key's route, the role of its peer's AS, and the current verdict with its printed witness
pub record IsRouteStanding (state : State) (key : Key) (s : Standing) : Type 0 where
  pub route : fin.get state.routes key ≡ Some s.path
  pub role : s.role ≡ role_of state.roles key.peer.asn
  pub current : IsCurrent state key s.verdict
  pub explained : IsExplained state key s.verdict s.witness

-- so it is with what is shown of a key
abbrev pub IsShown : State → Key → Shown → Type 0
IsShown state key shown = IsRouteStanding state key (standing shown)

-- each route in key order as it stands
pub record AreShown (state : State) (rows : List (Key × Standing)) : Type 0 where
  pub keys : map (λ row. row.0) rows ≡ fin.keys state.routes
  pub each : All (λ row. IsRouteStanding state row.0 row.1) rows
