-- What the body of a record says, by the peer table before it. Begin reading at `IsReading`, at the end.
use Rattle.std.specs.Prelude.{◌≡◌, ℕ, ◌==◌, ◌⊎◌, Bool, if◌then◌else◌, List, [], ◌∷◌, Some, None, Ok, Err}
use Rattle.std.specs.declared.option.Option.{Option}
use Rattle.std.specs.declared.result.Result.{Result}
use Rattle.path_model.specs.declared.change.Change.{Change}
use Rattle.path_model.specs.declared.change.Change.TheVariants.{RemovePeer}
use Rattle.path_model.specs.declared.noted.Noted.{Noted}
use Rattle.path_model.specs.declared.peer.Peer.{Peer}
use Rattle.bgp_update.specs.declared.fault.UpdateFault.{UpdateFault}
use Rattle.bgp_update.specs.declared.fault.UpdateFault.TheVariants as update_faults
use Rattle.bgp_update.specs.Updates as updates
use Rattle.mrt_reader.specs.declared.body.Body.{Body}
use Rattle.mrt_reader.specs.declared.body.Body.TheVariants as bodies
use Rattle.mrt_reader.specs.declared.fault.BodyFault.{BodyFault}
use Rattle.mrt_reader.specs.declared.fault.BodyFault.TheVariants as faults
use Rattle.mrt_reader.specs.declared.layout.Layout.{Layout}
use Rattle.mrt_reader.specs.declared.layout.Layout.TheVariants as layouts
use Rattle.mrt_reader.specs.Dumps.{IsTableDump}
use Rattle.mrt_reader.specs.Layouts.{layout_of}
use Rattle.mrt_reader.specs.Peers.{IsPeerTable}
use Rattle.mrt_reader.specs.Records.{Recorded}
use Rattle.mrt_reader.specs.Ribs.{Rib, IsRib}
use Rattle.mrt_reader.specs.Routes.{EntriesSay, DumpSays}
use Rattle.mrt_reader.specs.Sessions.{IsRecordedMessage, IsStateChange}

-- the body has no such form, and that is the fault; or it has, and the reading is what its value says
abbrev pub ByForm : {A : Type 0} → (A → Type 0) → (A → Result Body BodyFault → Type 0) → Result Body BodyFault → Type 0
ByForm {A} HasForm Says reading = (((value : A) → HasForm value → ⊥) × (reading ≡ Err faults.Body)) ⊎ ((value : A) × HasForm value × Says value reading)

-- a peer table says its peers
abbrev pub TableSays : List Peer → Result Body BodyFault → Type 0
TableSays peers reading = reading ≡ Ok (bodies.Peers peers)

-- a RIB record, where `add_path` with path identifiers, with a table before it: what its entries say
abbrev pub HasEntries : Bool → Bool → Option (List Peer) → List ℕ → Result Body BodyFault → Type 0
HasEntries add_path six peers body reading = (rib : Rib) × (table : List Peer) × IsRib add_path six body rib × (peers ≡ Some table) × EntriesSay table rib.prefix rib.entries reading

-- a RIB record: the body is out of form; or it is in form, and no table is before it; or what its entries say
abbrev pub RibSays : Bool → Bool → Option (List Peer) → List ℕ → Result Body BodyFault → Type 0
RibSays add_path six peers body (Err faults.Body) = (rib : Rib) → IsRib add_path six body rib → ⊥
RibSays add_path six peers body (Err faults.NoPeerTable) = (rib : Rib) × IsRib add_path six body rib × (peers ≡ None)
RibSays add_path six peers body (Err faults.PeerIndex) = HasEntries add_path six peers body (Err faults.PeerIndex)
RibSays add_path six peers body (Err faults.Message) = ⊥
RibSays add_path six peers body (Err faults.Attributes) = HasEntries add_path six peers body (Err faults.Attributes)
RibSays add_path six peers body (Err faults.NoPath) = HasEntries add_path six peers body (Err faults.NoPath)
RibSays add_path six peers body (Err faults.NoMemory) = ⊥
RibSays add_path six peers body (Ok (bodies.Routes noted)) = HasEntries add_path six peers body (Ok (bodies.Routes noted))
RibSays add_path six peers body (Ok (bodies.Peers table)) = ⊥
RibSays add_path six peers body (Ok bodies.Passed) = ⊥

-- a message's fault as a record's
abbrev pub fault_of : UpdateFault → BodyFault
fault_of update_faults.Message = faults.Message
fault_of update_faults.Attributes = faults.Attributes
fault_of update_faults.NoPath = faults.NoPath
fault_of update_faults.NoMemory = faults.NoMemory

-- what a message says as what a record says
abbrev pub raised : Result Noted UpdateFault → Result Body BodyFault
raised (Ok noted) = Ok (bodies.Routes noted)
raised (Err fault) = Err (fault_of fault)

-- a recorded message with a peer: what the message says, where `add_path` with path identifiers
abbrev pub MessageSays : Bool → Bool → Peer × List ℕ → Result Body BodyFault → Type 0
MessageSays wide add_path (peer, message) reading = (inner : Result Noted UpdateFault) × updates.IsMessageReading wide add_path peer message inner × (reading ≡ raised inner)

-- the session of the peer is up (6 Established), or the peer's routes are gone
abbrev pub changes_at : Peer → ℕ → List Change
changes_at peer state = if state == 6 then [] else RemovePeer peer ∷ []

-- a state change of a peer: what the new state does
abbrev pub StateSays : Peer × ℕ → Result Body BodyFault → Type 0
StateSays (peer, state) reading = reading ≡ Ok (bodies.Routes (updates.without_notes (changes_at peer state)))

-- the body of each layout; the bodies of all other types and subtypes are passed over unread
abbrev pub LayoutSays : Layout → Option (List Peer) → List ℕ → Result Body BodyFault → Type 0
LayoutSays layouts.PeerIndex peers body reading = ByForm (IsPeerTable body) TableSays reading
LayoutSays (layouts.Rib six add_path) peers body reading = RibSays add_path six peers body reading
LayoutSays (layouts.Dump six) peers body reading = ByForm (IsTableDump six body) DumpSays reading
LayoutSays (layouts.Message timed wide add_path) peers body reading = ByForm (λ (it : Peer × List ℕ). IsRecordedMessage timed wide body it.0 it.1) (MessageSays wide add_path) reading
LayoutSays (layouts.State timed wide) peers body reading = ByForm (λ (it : Peer × ℕ). IsStateChange timed wide body it.0 it.1) StateSays reading
LayoutSays layouts.Other peers body reading = reading ≡ Ok bodies.Passed

-- What the record says, or the first fault in the order Body, NoPeerTable, PeerIndex, Message, Attributes, NoPath, each over the
-- whole record.
abbrev pub IsReading : Recorded → Option (List Peer) → Result Body BodyFault → Type 0
IsReading it peers reading = LayoutSays (layout_of it.kind it.subkind) peers it.body reading

-- the answer has the property, or it is want of memory
abbrev pub OrNoMemory : (Result Body BodyFault → Type 0) → Result Body BodyFault → Type 0
OrNoMemory P (Ok body) = P (Ok body)
OrNoMemory P (Err faults.Body) = P (Err faults.Body)
OrNoMemory P (Err faults.NoPeerTable) = P (Err faults.NoPeerTable)
OrNoMemory P (Err faults.PeerIndex) = P (Err faults.PeerIndex)
OrNoMemory P (Err faults.Message) = P (Err faults.Message)
OrNoMemory P (Err faults.Attributes) = P (Err faults.Attributes)
OrNoMemory P (Err faults.NoPath) = P (Err faults.NoPath)
OrNoMemory P (Err faults.NoMemory) = Unit {0}

-- the answer is what the record says, or want of memory
abbrev pub IsOutcome : Recorded → Option (List Peer) → Result Body BodyFault → Type 0
IsOutcome it peers result = OrNoMemory (IsReading it peers) result
