-- The line that says in which role a peer's AS is, and how many routes the peer has.
use Rattle.std.specs.Prelude.{ℕ, Bool, true, false, List, [], ◌∷◌, ◌++◌, codes, decimal}
use Rattle.std.specs.declared.option.Option.{Option}
use Rattle.std.specs.declared.option.Option.TheVariants.{Some, None}
use Rattle.path_model.specs.declared.addr.Addr.{Addr}
use Rattle.av_text.specs.AddressText.{addr_text}
use Rattle.av_text.specs.RoleText.{role_text}
use Rattle.report_text.specs.declared.peer_summary.PeerSummary.{PeerSummary}

-- the peer's address, or that no peer in the AS has routes
abbrev pub address_text : Option Addr → List ℕ
address_text None = codes "-"
address_text (Some addr) = addr_text addr

-- whether the role is the AS's own
abbrev pub owner_text : Bool → List ℕ
owner_text true = codes " own"
owner_text false = codes " default"

-- who it is, and in which role, with one space between two
abbrev pub who_part : PeerSummary → List ℕ
who_part peer = address_text peer.addr ++ 32 ∷ decimal peer.asn ++ 32 ∷ role_text peer.role ++ owner_text peer.own

-- how many routes it has, and how many of each verdict
abbrev pub routes_part : PeerSummary → List ℕ
routes_part peer =
    codes " routes " ++ decimal peer.routes ++ codes " valid " ++ decimal peer.valid
    ++ codes " unknown " ++ decimal peer.unknown ++ codes " invalid " ++ decimal peer.invalid

-- both, without the line feed
abbrev pub peer_summary_line : PeerSummary → List ℕ
peer_summary_line peer = who_part peer ++ routes_part peer

-- and with it
abbrev pub peer_summary_text : PeerSummary → List ℕ
peer_summary_text peer = peer_summary_line peer ++ 10 ∷ []
