-- What the body of a message says, in a view and by the peers that identify paths. Begin reading at `IsReading`, at the end.
use Rattle.std.specs.Prelude.{◌≡◌, ℕ, ◌==◌, ◌⊎◌, ◌↔◌, Bool, true, false, not, ◌||◌, List, [], ◌∷◌, Ok, Err, IsTrue}
use Rattle.std.specs.FinSet as set
use Rattle.std.specs.declared.option.Option.{Option}
use Rattle.std.specs.declared.result.Result.{Result}
use Rattle.path_model.specs.declared.change.Change.TheVariants.{RemovePeer}
use Rattle.path_model.specs.declared.noted.Noted.{Noted}
use Rattle.path_model.specs.declared.peer.Peer.{Peer}
use Rattle.path_model.specs.declared.role.Role.{Role}
use Rattle.path_model.specs.Key.{peer_cmp}
use Rattle.bgp_update.specs.declared.fault.UpdateFault.{UpdateFault}
use Rattle.bgp_update.specs.declared.fault.UpdateFault.TheVariants as update_faults
use Rattle.bgp_update.specs.Updates as updates
use Rattle.bmp_reader.specs.declared.body.Body.{Body}
use Rattle.bmp_reader.specs.declared.body.Body.TheVariants as bodies
use Rattle.bmp_reader.specs.declared.fault.BmpFault.{BmpFault}
use Rattle.bmp_reader.specs.declared.fault.BmpFault.TheVariants as faults
use Rattle.bmp_reader.specs.declared.header.PeerHeader.{PeerHeader}
use Rattle.bmp_reader.specs.declared.kind.Kind.{Kind}
use Rattle.bmp_reader.specs.declared.kind.Kind.TheVariants as kinds
use Rattle.bmp_reader.specs.declared.view.View.{View}
use Rattle.bmp_reader.specs.declared.view.View.TheVariants as views
use Rattle.bmp_reader.specs.Forms.{Up, IsRouteMonitoring, IsPeerDown, IsPeerUp}
use Rattle.bmp_reader.specs.Headers.{is_post, is_wide}
use Rattle.bmp_reader.specs.Kinds.{kind_of}
use Rattle.bmp_reader.specs.Learning.{TellsRole, HasPaths}
use Rattle.bmp_reader.specs.Messages.{Sent}
use Rattle.bmp_reader.specs.Opens.{Triple, HasCapabilities}

-- the peers whose prefixes have path identifiers
abbrev pub Identifying : Type 0
Identifying = set.FinSet peer_cmp

-- the body has no such form, and that is the fault; or it has, and the reading is what its value says
abbrev pub ByForm : {A : Type 0} → (A → Type 0) → (A → Result Body BmpFault → Type 0) → Result Body BmpFault → Type 0
ByForm {A} HasForm Says reading = (((value : A) → HasForm value → ⊥) × (reading ≡ Err faults.Body)) ⊎ ((value : A) × HasForm value × Says value reading)

-- the message is passed over, or it says what it says
abbrev pub Unless : Bool → (Result Body BmpFault → Type 0) → Result Body BmpFault → Type 0
Unless true Says reading = reading ≡ Ok bodies.Passed
Unless false Says reading = Says reading

-- the peer isn't a Global Instance Peer, whose type is 0
abbrev pub is_elsewhere : PeerHeader → Bool
is_elsewhere header = not (header.kind == 0)

-- the routes are of the other view
abbrev pub is_of_other : View → PeerHeader → Bool
is_of_other views.Pre header = is_post header.flags
is_of_other views.Post header = not (is_post header.flags)

-- a message's fault as a body's
abbrev pub fault_of : UpdateFault → BmpFault
fault_of update_faults.Message = faults.Message
fault_of update_faults.Attributes = faults.Attributes
fault_of update_faults.NoPath = faults.NoPath
fault_of update_faults.NoMemory = faults.NoMemory

-- what a BGP message says as what a body says
abbrev pub raised : Result Noted UpdateFault → Result Body BmpFault
raised (Ok noted) = Ok (bodies.Routes noted)
raised (Err fault) = Err (fault_of fault)

-- a BGP message from a peer, with ASes of so many bytes: what it says, without path identifiers
abbrev pub MessageSays : Bool → Peer → List ℕ → Result Body BmpFault → Type 0
MessageSays wide peer message reading = (inner : Result Noted UpdateFault) × updates.IsMessageReading wide false peer message inner × (reading ≡ raised inner)

-- a Route Monitoring is passed over: it is of a peer elsewhere, of the other view, or of a peer that identifies paths
abbrev pub is_passed : View → Identifying → PeerHeader → Bool
is_passed view peers header = is_elsewhere header || (is_of_other view header || set.contains peers header.peer)

-- a Route Monitoring: what its message says, unless it is passed over
abbrev pub RoutesSay : View → Identifying → PeerHeader × List ℕ → Result Body BmpFault → Type 0
RoutesSay view peers (header, message) reading = Unless (is_passed view peers header) (MessageSays (is_wide header.flags) header.peer message) reading

-- a Peer Down: all routes of the peer are gone, unless it is elsewhere
abbrev pub DownSays : PeerHeader → Result Body BmpFault → Type 0
DownSays header reading = Unless (is_elsewhere header) (λ r. r ≡ Ok (bodies.Routes (updates.without_notes (RemovePeer header.peer ∷ [])))) reading

-- The OPENs tell the peer's role, or none, and whether both have the capability ADD-PATH.
pub record Tells (up : Up) (role : Option Role) (paths : Bool) : Type 0 where
  pub sent : List Triple
  pub received : List Triple
  pub has_sent : HasCapabilities up.sent sent
  pub has_received : HasCapabilities up.received received
  pub tells : TellsRole received role
  pub both : IsTrue paths ↔ (HasPaths sent × HasPaths received)

-- a Peer Up that counts: the peer, with what its OPENs tell
abbrev pub OpensSay : Up → Result Body BmpFault → Type 0
OpensSay up reading = (role : Option Role) × (paths : Bool) × Tells up role paths × (reading ≡ Ok (bodies.Up up.header.peer role paths))

-- a Peer Up, unless the peer is elsewhere
abbrev pub UpSays : Up → Result Body BmpFault → Type 0
UpSays up reading = Unless (is_elsewhere up.header) (OpensSay up) reading

-- the body of each kind; the bodies of other messages are passed over unread
abbrev pub KindSays : Kind → View → Identifying → List ℕ → Result Body BmpFault → Type 0
KindSays kinds.RouteMonitoring view peers body reading = ByForm (λ (it : PeerHeader × List ℕ). IsRouteMonitoring body it.0 it.1) (RoutesSay view peers) reading
KindSays kinds.PeerDown view peers body reading = ByForm (IsPeerDown body) DownSays reading
KindSays kinds.PeerUp view peers body reading = ByForm (IsPeerUp body) UpSays reading
KindSays kinds.Other view peers body reading = reading ≡ Ok bodies.Passed

-- What the message says, or the first fault in the order Body, Message, Attributes, NoPath, each over the whole message.
abbrev pub IsReading : Sent → View → Identifying → Result Body BmpFault → Type 0
IsReading it view peers reading = KindSays (kind_of it.kind) view peers it.body reading

-- the answer has the property, or it is want of memory
abbrev pub OrNoMemory : (Result Body BmpFault → Type 0) → Result Body BmpFault → Type 0
OrNoMemory P (Ok body) = P (Ok body)
OrNoMemory P (Err faults.Body) = P (Err faults.Body)
OrNoMemory P (Err faults.Message) = P (Err faults.Message)
OrNoMemory P (Err faults.Attributes) = P (Err faults.Attributes)
OrNoMemory P (Err faults.NoPath) = P (Err faults.NoPath)
OrNoMemory P (Err faults.NoMemory) = Unit {0}

-- the answer is what the message says, or want of memory
abbrev pub IsOutcome : Sent → View → Identifying → Result Body BmpFault → Type 0
IsOutcome it view peers result = OrNoMemory (IsReading it view peers) result
