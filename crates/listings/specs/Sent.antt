-- The text that lists our routes as an AS sees them that gets them over some ASes.
use Rattle.std.specs.Prelude.{◌≡◌, ℕ, Bool, true, false, List, ◌∷◌, ◌++◌, map, filter, reverse, slice_index_or, All, OnOk, ◌+◌, ◌≤◌}
use Rattle.std.specs.FinMap as fin
use Rattle.std.specs.declared.option.Option.{Option}
use Rattle.std.specs.declared.option.Option.TheVariants.{Some, None}
use Rattle.std.specs.declared.result.Result.{Result}
use Rattle.attestations.specs.CurrentTable.{IsCurrentTable}
use Rattle.av_base.specs.declared.stop.Stop.{Stop}
use Rattle.path_model.specs.declared.key.Key.{Key}
use Rattle.path_model.specs.declared.role.Role.{Role}
use Rattle.path_model.specs.declared.role.Role.TheVariants.{Provider, Customer, Peer, Rs, RsClient, Mutual}
use Rattle.path_model.specs.declared.verdict.Verdict.{Verdict}
use Rattle.path_model.specs.Authority.{Table}
use Rattle.path_model.specs.RightVerdict.{IsRight}
use Rattle.path_model.specs.Roles.{Relations, role_of}
use Rattle.path_model.specs.Trail.{Path, path_of}
use Rattle.report_text.specs.Own.{own_text}
use Rattle.report_text.specs.Rows.{row_text}
use Rattle.rib_store.specs.State.{State}
use Rattle.listings.specs.Tallies.{IsNumberOf}

-- what we hear from an AS in this role may be sent upwards
abbrev pub goes_up : Role → Bool
goes_up Provider = false
goes_up Customer = true
goes_up Peer = false
goes_up Rs = false
goes_up RsClient = false
goes_up Mutual = true

-- the routes of such an AS are sent
abbrev pub is_sent : Relations → ℕ → Bool
is_sent roles asn = goes_up (role_of roles asn)

-- the first of the ASes, which hands the routes on; 0 where there is none
abbrev pub first_of : List ℕ → ℕ
first_of ases = slice_index_or ases 0 0

-- the ASes, neighbour first, and behind them those of a route's path, shortened as a whole
abbrev pub sent_path : List ℕ → Path → Path
sent_path ases path = path_of path.set (ases ++ reverse path.chain)

-- the verdict of the key's route as it is seen behind these ASes, in this role of the first one
pub record IsSeen (state : State) (table : Table) (role : Role) (ases : List ℕ) (row : Key × Verdict) : Type 0 where
  pub path : Path
  pub route : fin.get state.routes row.0 ≡ Some path
  pub right : IsRight table role (first_of ases) (sent_path ases path) row.1

-- a row of a route, and that of what we originate, which has no key
abbrev pub SentRow : Type 0
SentRow = Option Key × Verdict

abbrev pub of_route : Key × Verdict → SentRow
of_route row = (Some row.0, row.1)

-- By the current table, what we originate, whose path is that of the ASes alone, and then each route that is sent, in key order, as it is seen.
pub record AreSent (state : State) (role : Role) (ases : List ℕ) (rows : List SentRow) : Type 0 where
  pub table : Table
  pub current : IsCurrentTable state.parts table
  pub own : Verdict
  pub right : IsRight table role (first_of ases) (path_of false ases) own
  pub routes : List (Key × Verdict)
  pub keys : map (λ row. row.0) routes ≡ filter (λ key. is_sent state.roles key.peer.asn) (fin.keys state.routes)
  pub each : All (IsSeen state table role ases) routes
  pub rows_are : rows ≡ (None, own) ∷ map of_route routes

-- the line of a row
abbrev pub sent_row : SentRow → List ℕ
sent_row (None, verdict) = own_text verdict
sent_row (Some key, verdict) = row_text key verdict

-- some route that is sent is from this AS and has this path
pub record IsSentPair (state : State) (pair : ℕ × Path) : Type 0 where
  pub sent : is_sent state.roles pair.0 ≡ true
  pub key : Key
  pub asn : key.peer.asn ≡ pair.0
  pub route : fin.get state.routes key ≡ Some pair.1

-- One tick for what we originate, and one for each distinct pair of a peer AS and a path among the routes that are sent; and no more where
-- memory ran out.
pub record TicksAsSent {T : Type 0} (state : State) (old new : ℕ) (result : Result T Stop) : Type 0 where
  pub pairs : ℕ
  pub are : IsNumberOf (IsSentPair state) pairs
  pub most : new ≤ old + 1 + pairs
  pub whole : OnOk result (new ≡ old + 1 + pairs)
