-- Each message has exactly one reading, and want of memory is none.
use Rattle.std.proofs.Common.{◌≡◌, ℕ, Bool, true, false, List, [], ◌∷◌, Ok, Err, refl, sym, ap, subst, ◌∙◌, true≢false}
use Rattle.std.specs.Prelude.{◌↔◌, ◌&&◌, IsTrue}
use Rattle.std.specs.declared.option.Option.{Option}
use Rattle.std.specs.declared.result.Result.{Result}
use Rattle.av_base.specs.One.{HasOne}
use Rattle.path_model.specs.declared.change.Change.TheVariants.{RemovePeer}
use Rattle.path_model.specs.declared.noted.Noted.{Noted}
use Rattle.path_model.specs.declared.peer.Peer.{Peer}
use Rattle.path_model.specs.declared.role.Role.{Role}
use Rattle.bgp_update.specs.declared.fault.UpdateFault.{UpdateFault}
use Rattle.bgp_update.specs.declared.fault.UpdateFault.TheVariants as update_faults
use Rattle.bgp_update.specs.Updates as updates
use Rattle.bgp_update.proofs.MessageLemmas as messages
use Rattle.bmp_reader.specs.declared.body.Body.{Body}
use Rattle.bmp_reader.specs.declared.body.Body.TheVariants as bodies
use Rattle.bmp_reader.specs.declared.fault.BmpFault.{BmpFault}
use Rattle.bmp_reader.specs.declared.fault.BmpFault.TheVariants as faults
use Rattle.bmp_reader.specs.declared.header.PeerHeader.{PeerHeader}
use Rattle.bmp_reader.specs.declared.kind.Kind.{Kind}
use Rattle.bmp_reader.specs.declared.kind.Kind.TheVariants as kinds
use Rattle.bmp_reader.specs.declared.seen.Seen.{Seen}
use Rattle.bmp_reader.specs.declared.view.View.{View}
use Rattle.bmp_reader.specs.Bodies.{Identifying, Unless, is_elsewhere, is_passed, raised, MessageSays, RoutesSay, DownSays, Tells, OpensSay, UpSays, KindSays, IsReading}
use Rattle.bmp_reader.specs.Forms.{Up, IsRouteMonitoring, IsPeerDown, IsPeerUp}
use Rattle.bmp_reader.specs.Headers.{is_wide}
use Rattle.bmp_reader.specs.Kinds.{kind_of}
use Rattle.bmp_reader.specs.Learning.{TellsRole, HasPaths}
use Rattle.bmp_reader.specs.Messages.{Sent}
use Rattle.bmp_reader.specs.Opens.{Triple}
use Rattle.bmp_reader.specs.Readers.{header_at, down_at, up_at, capabilities_of}
use Rattle.bmp_reader.specs.Seen.{unseen, see_all, role_told}
use Rattle.bmp_reader.proofs.CapabilityLemmas.{has_found, found_only}
use Rattle.bmp_reader.proofs.FormLemmas.{Says, monitoring_reads, down_reads, up_reads, form_same, form_some, form_reads}
use Rattle.bmp_reader.proofs.SeenLemmas.{all_seen, role_seen, role_same, truth_same}

-- ---- unless it is passed over

unless_same : (passed : Bool) (P : Result Body BmpFault → Type 0) (one other : Result Body BmpFault) → (P one → P other → one ≡ other) → Unless passed P one → Unless passed P other → one ≡ other
unless_same true P one other same p q = p ∙ sym q
unless_same false P one other same p q = same p q

unless_some : (passed : Bool) (P : Result Body BmpFault → Type 0) → Says P → Says (Unless passed P)
unless_some true P some = (Ok bodies.Passed, refl)
unless_some false P some = some

unless_reads : (passed : Bool) (P : Result Body BmpFault → Type 0) → (P (Err faults.NoMemory) → ⊥) → Unless passed P (Err faults.NoMemory) → ⊥
unless_reads true P never is = cc
unless_reads false P never is = never is

-- ---- what the OPENs tell

-- whether both have ADD-PATH
both_paths : (sent received : List Triple) → IsTrue ((see_all unseen sent).add_path && (see_all unseen received).add_path) ↔ (HasPaths sent × HasPaths received)
both_paths sent received = by_tests (see_all unseen sent).add_path (see_all unseen received).add_path (all_seen sent).add_path (all_seen received).add_path
  where
    by_tests : (p q : Bool) → IsTrue p ↔ HasPaths sent → IsTrue q ↔ HasPaths received → IsTrue (p && q) ↔ (HasPaths sent × HasPaths received)
    by_tests true true s r = (λ on. (s.0 refl, r.0 refl), λ has. refl)
    by_tests true false s r = (λ on. absurd (true≢false (sym on)), λ has. r.1 has.1)
    by_tests false q s r = (λ on. absurd (true≢false (sym on)), λ has. s.1 has.0)

-- what is seen of the capabilities of both is told
pub seen_tells : (up : Up)
    → Tells up (role_told (see_all unseen (capabilities_of up.received)).told) ((see_all unseen (capabilities_of up.sent)).add_path && (see_all unseen (capabilities_of up.received)).add_path)
seen_tells up = record {
  sent = capabilities_of up.sent;
  received = capabilities_of up.received;
  has_sent = has_found up.sent;
  has_received = has_found up.received;
  tells = role_seen (capabilities_of up.received);
  both = both_paths (capabilities_of up.sent) (capabilities_of up.received);
}

-- what a Peer Up says, of what is seen of its OPENs
pub opens_say : (up : Up) (role : Option Role) (sent received : Seen) (paths : Bool) → sent ≡ see_all unseen (capabilities_of up.sent) → received ≡ see_all unseen (capabilities_of up.received) → role ≡ role_told received.told
    → paths ≡ (sent.add_path && received.add_path) → OpensSay up (Ok (bodies.Up up.header.peer role paths))
opens_say up role sent received paths s r t b =
    let both : paths ≡ ((see_all unseen (capabilities_of up.sent)).add_path && (see_all unseen (capabilities_of up.received)).add_path) = b ∙ (λ i. (s i).add_path && (r i).add_path) in
    let told : role ≡ role_told (see_all unseen (capabilities_of up.received)).told = t ∙ ap (λ (x : Seen). role_told x.told) r in
    (role, paths, subst (λ (x : Bool). Tells up role x) (sym both) (subst (λ (x : Option Role). Tells up x ((see_all unseen (capabilities_of up.sent)).add_path && (see_all unseen (capabilities_of up.received)).add_path)) (sym told) (seen_tells up)), refl)

tells_same : (up : Up) (one other : Option Role) (paths also : Bool) → Tells up one paths → Tells up other also → (one ≡ other) × (paths ≡ also)
tells_same up one other paths also p q =
    let sent : q.sent ≡ p.sent = found_only up.sent q.sent q.has_sent ∙ sym (found_only up.sent p.sent p.has_sent) in
    let received : q.received ≡ p.received = found_only up.received q.received q.has_received ∙ sym (found_only up.received p.received p.has_received) in
    let role : TellsRole p.received other = subst (λ (ts : List Triple). TellsRole ts other) received q.tells in
    let both : IsTrue also ↔ (HasPaths p.sent × HasPaths p.received) =
    subst (λ (ts : List Triple). IsTrue also ↔ (HasPaths ts × HasPaths p.received)) sent (subst (λ (ts : List Triple). IsTrue also ↔ (HasPaths q.sent × HasPaths ts)) received q.both) in
    (role_same p.received one other p.tells role, truth_same paths also p.both both)

opens_same : (up : Up) (one other : Result Body BmpFault) → OpensSay up one → OpensSay up other → one ≡ other
opens_same up one other p q =
    let same = tells_same up p.0 q.0 p.1 q.1 p.2 q.2 in
    p.3 ∙ (λ i. Ok (bodies.Up up.header.peer (same.0 i) (same.1 i))) ∙ sym q.3

opens_some : (up : Up) → Says (OpensSay up)
opens_some up =
    let role = role_told (see_all unseen (capabilities_of up.received)).told in
    let paths = (see_all unseen (capabilities_of up.sent)).add_path && (see_all unseen (capabilities_of up.received)).add_path in
    (Ok (bodies.Up up.header.peer role paths), (role, paths, seen_tells up, refl))

-- ---- the kinds

message_same : (wide : Bool) (peer : Peer) (message : List ℕ) (one other : Result Body BmpFault) → MessageSays wide peer message one → MessageSays wide peer message other → one ≡ other
message_same wide peer message one other p q = p.2 ∙ ap raised (messages.reading_same wide false peer message p.0 q.0 p.1 q.1) ∙ sym q.2

message_some : (wide : Bool) (peer : Peer) (message : List ℕ) → Says (MessageSays wide peer message)
message_some wide peer message = let inner = messages.reading_some wide false peer message in (raised inner.0, (inner.0, inner.1, refl))

routes_same : (view : View) (peers : Identifying) (it : PeerHeader × List ℕ) (one other : Result Body BmpFault) → RoutesSay view peers it one → RoutesSay view peers it other → one ≡ other
routes_same view peers (header, message) one other p q =
    unless_same (is_passed view peers header) (MessageSays (is_wide header.flags) header.peer message) one other (message_same (is_wide header.flags) header.peer message one other) p q

routes_some : (view : View) (peers : Identifying) (it : PeerHeader × List ℕ) → Says (RoutesSay view peers it)
routes_some view peers (header, message) = unless_some (is_passed view peers header) (MessageSays (is_wide header.flags) header.peer message) (message_some (is_wide header.flags) header.peer message)

kind_same : (kind : Kind) (view : View) (peers : Identifying) (body : List ℕ) (one other : Result Body BmpFault) → KindSays kind view peers body one → KindSays kind view peers body other → one ≡ other
kind_same kinds.RouteMonitoring view peers body one other p q =
    form_same (λ (it : PeerHeader × List ℕ). IsRouteMonitoring body it.0 it.1) (RoutesSay view peers) (header_at body) one other (monitoring_reads body) (λ it a b. routes_same view peers it one other a b) p q
kind_same kinds.PeerDown view peers body one other p q =
    form_same (IsPeerDown body) DownSays (down_at body) one other (down_reads body)
    (λ header a b. unless_same (is_elsewhere header) (λ r. r ≡ Ok (bodies.Routes (updates.without_notes (RemovePeer header.peer ∷ [])))) one other (λ x y. x ∙ sym y) a b) p q
kind_same kinds.PeerUp view peers body one other p q =
    form_same (IsPeerUp body) UpSays (up_at body) one other (up_reads body) (λ up a b. unless_same (is_elsewhere up.header) (OpensSay up) one other (opens_same up one other) a b) p q
kind_same kinds.Other view peers body one other p q = p ∙ sym q

kind_some : (kind : Kind) (view : View) (peers : Identifying) (body : List ℕ) → Says (KindSays kind view peers body)
kind_some kinds.RouteMonitoring view peers body = form_some (λ (it : PeerHeader × List ℕ). IsRouteMonitoring body it.0 it.1) (RoutesSay view peers) (header_at body) (monitoring_reads body) (routes_some view peers)
kind_some kinds.PeerDown view peers body =
    form_some (IsPeerDown body) DownSays (down_at body) (down_reads body)
    (λ header. unless_some (is_elsewhere header) (λ r. r ≡ Ok (bodies.Routes (updates.without_notes (RemovePeer header.peer ∷ [])))) (Ok (bodies.Routes (updates.without_notes (RemovePeer header.peer ∷ []))), refl))
kind_some kinds.PeerUp view peers body = form_some (IsPeerUp body) UpSays (up_at body) (up_reads body) (λ up. unless_some (is_elsewhere up.header) (OpensSay up) (opens_some up))
kind_some kinds.Other view peers body = (Ok bodies.Passed, refl)

pub reading_same : (it : Sent) (view : View) (peers : Identifying) (one other : Result Body BmpFault) → IsReading it view peers one → IsReading it view peers other → one ≡ other
reading_same it view peers one other p q = kind_same (kind_of it.kind) view peers it.body one other p q

pub one_reading : (it : Sent) (view : View) (peers : Identifying) → HasOne (IsReading it view peers)
one_reading it view peers =
    let some = kind_some (kind_of it.kind) view peers it.body in
    record { one = some.0; is = some.1; only = λ other is. reading_same it view peers other some.0 is some.1 }

-- ---- want of memory

raised_reads : (wide : Bool) (peer : Peer) (message : List ℕ) (inner : Result Noted UpdateFault) → updates.IsMessageReading wide false peer message inner → Err faults.NoMemory ≡ raised inner → ⊥
raised_reads wide peer message (Ok noted) reads is = cc
raised_reads wide peer message (Err update_faults.Message) reads is = cc
raised_reads wide peer message (Err update_faults.Attributes) reads is = cc
raised_reads wide peer message (Err update_faults.NoPath) reads is = cc
raised_reads wide peer message (Err update_faults.NoMemory) reads is = reads

routes_reads : (view : View) (peers : Identifying) (it : PeerHeader × List ℕ) → RoutesSay view peers it (Err faults.NoMemory) → ⊥
routes_reads view peers (header, message) says =
    unless_reads (is_passed view peers header) (MessageSays (is_wide header.flags) header.peer message) (λ inner. raised_reads (is_wide header.flags) header.peer message inner.0 inner.1 inner.2) says

kind_reads : (kind : Kind) (view : View) (peers : Identifying) (body : List ℕ) → KindSays kind view peers body (Err faults.NoMemory) → ⊥
kind_reads kinds.RouteMonitoring view peers body says = form_reads (λ (it : PeerHeader × List ℕ). IsRouteMonitoring body it.0 it.1) (RoutesSay view peers) (routes_reads view peers) says
kind_reads kinds.PeerDown view peers body says =
    form_reads (IsPeerDown body) DownSays (λ header s. unless_reads (is_elsewhere header) (λ r. r ≡ Ok (bodies.Routes (updates.without_notes (RemovePeer header.peer ∷ [])))) (λ e. cc) s) says
kind_reads kinds.PeerUp view peers body says = form_reads (IsPeerUp body) UpSays (λ up s. unless_reads (is_elsewhere up.header) (OpensSay up) (λ o. (let e = o.3 in cc)) s) says
kind_reads kinds.Other view peers body says = cc

pub no_want_of_memory : (it : Sent) (view : View) (peers : Identifying) → IsReading it view peers (Err faults.NoMemory) → ⊥
no_want_of_memory it view peers reads = kind_reads (kind_of it.kind) view peers it.body reads
