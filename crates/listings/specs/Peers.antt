-- The text that lists the peers that have routes, and the ASes that have a role of their own and no routes.
use Rattle.std.specs.Prelude.{◌≡◌, ℕ, nat_eq, Bool, not, is_some, List, [], ◌++◌, map, filter}
use Rattle.std.specs.FinMap as fin
use Rattle.std.specs.List.{list_any}
use Rattle.std.specs.declared.option.Option.{Option}
use Rattle.std.specs.declared.option.Option.TheVariants.{Some, None}
use Rattle.path_model.specs.declared.addr.Addr.{Addr}
use Rattle.path_model.specs.declared.key.Key.{Key}
use Rattle.path_model.specs.declared.peer.Peer.{Peer}
use Rattle.path_model.specs.declared.verdict.Verdict.{Verdict}
use Rattle.path_model.specs.Key.{peer_cmp}
use Rattle.path_model.specs.Roles.{Relations, role_of}
use Rattle.path_model.specs.Routes.{is_of_peer}
use Rattle.report_text.specs.declared.peer_summary.PeerSummary.{PeerSummary}
use Rattle.report_text.specs.PeerSummaries.{peer_summary_text}
use Rattle.rib_store.specs.declared.counts.Counts.{Counts}
use Rattle.rib_store.specs.Counts.{counted}
use Rattle.rib_store.specs.State.{State, AreRows}

-- the peers of some routes, each once, in key order; a route's row is its key and its verdict
abbrev pub peers_of : List (Key × Verdict) → List Peer
peers_of rows = fin.keys (fin.from_entries {R = peer_cmp} (map (λ row. (row.0.peer, row.1)) rows))

-- the routes of one peer
abbrev pub rows_by : Peer → List (Key × Verdict) → List (Key × Verdict)
rows_by peer rows = filter (λ row. is_of_peer peer row.0) rows

-- whether some peer in the AS has one
abbrev pub has_routes : List (Key × Verdict) → ℕ → Bool
has_routes rows asn = list_any (λ row. nat_eq row.0.peer.asn asn) rows

-- the ASes that have a role of their own and no routes, rising
abbrev pub idle_ases : Relations → List (Key × Verdict) → List ℕ
idle_ases roles rows = filter (λ asn. not (has_routes rows asn)) (fin.keys roles.set)

-- what is said of an AS, in its role, with so many routes
abbrev pub summed : Relations → Option Addr → ℕ → Counts → PeerSummary
summed roles addr asn counts = record {
  addr = addr;
  asn = asn;
  role = role_of roles asn;
  own = is_some (fin.get roles.set asn);
  routes = counts.routes;
  valid = counts.valid;
  unknown = counts.unknown;
  invalid = counts.invalid;
}

-- of a peer, with its routes, and of an AS with none
abbrev pub peer_summary : Relations → List (Key × Verdict) → Peer → PeerSummary
peer_summary roles rows peer = summed roles (Some peer.addr) peer.asn (counted (rows_by peer rows))

abbrev pub idle_summary : Relations → ℕ → PeerSummary
idle_summary roles asn = summed roles None asn (counted [])

-- what is said of each peer that has routes, in key order, and then of each AS that has a role of its own and none
abbrev pub summaries_of : Relations → List (Key × Verdict) → List PeerSummary
summaries_of roles rows = map (peer_summary roles rows) (peers_of rows) ++ map (idle_summary roles) (idle_ases roles rows)

-- so it is of the routes of a state, with their current verdicts, and its roles
pub record ArePeers (state : State) (summaries : List PeerSummary) : Type 0 where
  pub rows : List (Key × Verdict)
  pub are : AreRows state rows
  pub listed : summaries ≡ summaries_of state.roles rows

-- the line of one
abbrev pub peer_row : PeerSummary → List ℕ
peer_row = peer_summary_text
