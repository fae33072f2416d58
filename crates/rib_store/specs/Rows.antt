-- The rows of a report, made of its routes, and what an iterator over them has left.
use Rattle.std.specs.Prelude.{ℕ, List, map}
use Rattle.std.specs.FinMap as fin
use Rattle.path_model.specs.declared.key.Key.{Key}
use Rattle.path_model.specs.declared.role.Role.{Role}
use Rattle.path_model.specs.declared.verdict.Verdict.{Verdict}
use Rattle.path_model.specs.Authority.{Table}
use Rattle.attestations.specs.ComputedTable.{table_of}
use Rattle.attestations.specs.CurrentTable.{Parts}
use Rattle.path_model.specs.Roles.{Relations, role_of}
use Rattle.path_model.specs.Routes.{Routes}
use Rattle.path_model.specs.Trail.{Path}
use Rattle.path_model.proofs.LawLemmas.{one_right}
use Rattle.path_model.specs.declared.nlri.Nlri.{Nlri}
use Rattle.path_model.specs.declared.peer.Peer.{Peer}
use Rattle.route_map.specs.Flat.{flat, of_peer, routes_or}
use Rattle.rib_store.specs.declared.rib.PeerRows.{PeerRows}
use Rattle.rib_store.specs.declared.rib.Rib.{Rib}
use Rattle.rib_store.specs.declared.rib.RibPeers.{RibPeers}
use Rattle.shared_cases.specs.Cases.{Slots, at, verdict_or}
use Rattle.rib_store.specs.Cased.{through}
use Rattle.rib_store.specs.State.{Marked}

-- the right verdict of a case: the one that the law of verdicts gives
unfoldable pub verdict_of : Table → Role → ℕ → Path → Verdict
verdict_of table role neighbour path = (one_right table role neighbour path).one

-- the right verdict of a key's path, by the table that the parts make and the role of the peer's AS
abbrev pub current_verdict : Parts → Relations → Key → Path → Verdict
current_verdict parts relations key path = verdict_of (table_of parts) (role_of relations key.peer.asn) key.peer.asn path

-- a row for each of these routes
abbrev pub rows_of : Parts → Relations → List (Key × Path) → List (Key × Verdict)
rows_of parts relations routes = map (λ e. (e.0, current_verdict parts relations e.0 e.1)) routes

-- each key with the verdict of its case
abbrev pub rows_left : Rib → List (Key × Verdict)
rows_left rib = through verdict_or rib.cases.now rib.rest

-- each of what one peer announced with the verdict of its case
abbrev pub verdicts_of : Slots → List (Nlri × ℕ) → List (Nlri × Verdict)
verdicts_of cases routes = map {B = Nlri × Verdict} (λ e. (e.0, verdict_or (at cases e.1))) routes

abbrev pub peer_rows_left : PeerRows → List (Nlri × Verdict)
peer_rows_left rows = verdicts_of rows.cases.now (routes_or rows.rest)

-- and so for each peer
abbrev pub verdicts_by_peer : Slots → List (Peer × List (Nlri × ℕ)) → List (Peer × List (Nlri × Verdict))
verdicts_by_peer cases peers = map {B = Peer × List (Nlri × Verdict)} (λ p. (p.0, verdicts_of cases p.1)) peers

abbrev pub peers_left : RibPeers → List (Peer × List (Nlri × Verdict))
peers_left peers = verdicts_by_peer peers.cases.now peers.rest

-- the rows of one peer under their whole keys, and those of all peers
abbrev pub rows_under : Peer → List (Nlri × Verdict) → List (Key × Verdict)
rows_under = of_peer

abbrev pub all_rows : List (Peer × List (Nlri × Verdict)) → List (Key × Verdict)
all_rows = flat

-- the current verdict of each route
abbrev pub current_verdicts : Parts → Relations → Routes → Marked
current_verdicts parts relations routes = fin.from_entries (rows_of parts relations (fin.entries routes))
