-- What the step of a peer or of an AS adds; private contracts alone cite it.
use Rattle.std.specs.Prelude.{ℕ, ◌+◌, ◌≤◌, nat_eq, Bool, if◌then◌else◌, List, [], ◌++◌, map}
use Rattle.std.specs.List.{list_any}
use Rattle.std.specs.declared.option.Option.TheVariants.{Some}
use Rattle.path_model.specs.declared.nlri.Nlri.{Nlri}
use Rattle.path_model.specs.declared.peer.Peer.{Peer}
use Rattle.path_model.specs.declared.role.Role.{Role}
use Rattle.path_model.specs.declared.verdict.Verdict.{Verdict}
use Rattle.path_model.specs.declared.verdict.Verdict.TheVariants.{Valid, Unknown, Invalid}
use Rattle.path_model.specs.Authority.{has}
use Rattle.path_model.specs.Roles.{Relations}
use Rattle.report_text.specs.declared.peer_summary.PeerSummary.{PeerSummary}
use Rattle.rib_store.specs.Counts.{counted}
use Rattle.rib_store.specs.Rows.{rows_under}
use Rattle.listings.specs.Peers.{idle_summary, peer_row, summed}

-- what is said of a peer that has these routes
abbrev pub summary_under : Relations → Peer × List (Nlri × Verdict) → PeerSummary
summary_under roles p = summed roles (Some p.0.addr) p.0.asn (counted (rows_under p.0 p.1))

-- with one route more, of this verdict
abbrev pub one_more : PeerSummary → Verdict → PeerSummary
one_more summary Valid = record summary { routes = summary.routes + 1; valid = summary.valid + 1 }
one_more summary Unknown = record summary { routes = summary.routes + 1; unknown = summary.unknown + 1 }
one_more summary Invalid = record summary { routes = summary.routes + 1; invalid = summary.invalid + 1 }

-- of no verdict are more than there are
pub record AreWithin (summary : PeerSummary) : Type 0 where
  pub valid : summary.valid ≤ summary.routes
  pub unknown : summary.unknown ≤ summary.routes
  pub invalid : summary.invalid ≤ summary.routes

-- whether one of some peers is in the AS
abbrev pub is_seen : List (Peer × List (Nlri × Verdict)) → ℕ → Bool
is_seen peers asn = list_any (λ p. nat_eq p.0.asn asn) peers

-- the line of a peer
abbrev pub piece_of : Relations → Peer × List (Nlri × Verdict) → List ℕ
piece_of roles p = peer_row (summary_under roles p)

-- that of an AS with a role of its own, and nothing where it is one of those with routes
abbrev pub idle_piece : Relations → List ℕ → ℕ × Role → List ℕ
idle_piece roles seen own = if has seen own.0 then [] else peer_row (idle_summary roles own.0)

-- what the steps of all add
abbrev pub pieces : Relations → List ℕ → List (Peer × List (Nlri × Verdict)) → List (ℕ × Role) → List (List ℕ)
pieces roles seen peers own = map (piece_of roles) peers ++ map (idle_piece roles seen) own
