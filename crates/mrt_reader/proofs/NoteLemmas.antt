-- Each announcement of a record has its note.
use Rattle.std.proofs.Common.{◌≡◌, ℕ, ◌==◌, inl, inr, Bool, true, false, if◌then◌else◌, List, [], ◌∷◌, length, Ok, Err, refl, sym, subst, arith}
use Rattle.std.specs.declared.option.Option.{Option}
use Rattle.std.specs.declared.result.Result.{Result}
use Rattle.path_model.specs.declared.change.Change.{Change}
use Rattle.path_model.specs.declared.change.Change.TheVariants.{RemovePeer}
use Rattle.path_model.specs.declared.noted.Noted.{Noted}
use Rattle.path_model.specs.declared.otc.Otc.{Otc}
use Rattle.path_model.specs.declared.peer.Peer.{Peer}
use Rattle.path_model.specs.Notes.{announced_of, HasNotes}
use Rattle.path_model.specs.Prefix.{Subnet}
use Rattle.bgp_update.specs.declared.fault.UpdateFault.{UpdateFault}
use Rattle.bgp_update.specs.Updates as updates
use Rattle.bgp_update.proofs.NoteLemmas as messages
use Rattle.mrt_reader.specs.declared.body.Body.{Body}
use Rattle.mrt_reader.specs.declared.body.Body.TheVariants as bodies
use Rattle.mrt_reader.specs.declared.fault.BodyFault.{BodyFault}
use Rattle.mrt_reader.specs.declared.layout.Layout.{Layout}
use Rattle.mrt_reader.specs.declared.layout.Layout.TheVariants as layouts
use Rattle.mrt_reader.specs.Bodies.{ByForm, TableSays, raised, MessageSays, changes_at, StateSays, LayoutSays, IsReading}
use Rattle.mrt_reader.specs.Dumps.{IsTableDump}
use Rattle.mrt_reader.specs.Layouts.{layout_of}
use Rattle.mrt_reader.specs.Peers.{IsPeerTable}
use Rattle.mrt_reader.specs.Records.{Recorded}
use Rattle.mrt_reader.specs.Ribs.{Entry}
use Rattle.mrt_reader.specs.Routes.{with_first, IsRoute, AreRoutes, DumpSays}
use Rattle.mrt_reader.specs.Sessions.{IsRecordedMessage, IsStateChange}

-- a body that is in form has what its value says
by_form : {A : Type 0} (HasForm : A → Type 0) (Says : A → Result Body BodyFault → Type 0) (noted : Noted) → ((value : A) → Says value (Ok (bodies.Routes noted)) → HasNotes noted)
    → ByForm HasForm Says (Ok (bodies.Routes noted)) → HasNotes noted
by_form HasForm Says noted has (inl out) = (let e = out.1 in absurd cc)
by_form HasForm Says noted has (inr is) = has is.0 is.2

route_has : (peers : List Peer) (prefix : Subnet) (entry : Entry) (change : Change) (otc : Otc) (others : Noted) → IsRoute peers prefix entry change otc → HasNotes others → HasNotes (with_first change otc others)
route_has peers prefix entry change otc others is has =
    let behind : length others.notes ≡ announced_of others.changes = has in
    subst (λ (c : Change). HasNotes (with_first c otc others)) (sym is.is_change) (omega arith)

routes_have : (peers : List Peer) (prefix : Subnet) (entries : List Entry) (noted : Noted) → AreRoutes peers prefix entries noted → HasNotes noted
routes_have peers prefix [] noted are = subst HasNotes (sym are) refl
routes_have peers prefix (entry ∷ entries) noted are =
    subst HasNotes (sym are.3) (route_has peers prefix entry are.0 are.1 are.2 are.4 (routes_have peers prefix entries are.2 are.5))

-- the end of a session announces nothing
state_has : (peer : Peer) (state : ℕ) → HasNotes (updates.without_notes (changes_at peer state))
state_has peer state = by_test (state == 6)
  where
    by_test : (up : Bool) → HasNotes (updates.without_notes (if up then [] else RemovePeer peer ∷ []))
    by_test true = refl
    by_test false = refl

raised_has : (wide add_path : Bool) (peer : Peer) (message : List ℕ) (noted : Noted) (inner : Result Noted UpdateFault) → updates.IsMessageReading wide add_path peer message inner → Ok (bodies.Routes noted) ≡ raised inner → HasNotes noted
raised_has wide add_path peer message noted (Ok others) reads is =
    let same : noted ≡ others = cc in subst HasNotes (sym same) (messages.each_has_note wide add_path peer message others reads)
raised_has wide add_path peer message noted (Err fault) reads is = absurd cc

layout_has : (layout : Layout) (peers : Option (List Peer)) (body : List ℕ) (noted : Noted) → LayoutSays layout peers body (Ok (bodies.Routes noted)) → HasNotes noted
layout_has layouts.PeerIndex peers body noted says = by_form (IsPeerTable body) TableSays noted (λ table e. absurd cc) says
layout_has (layouts.Rib six add_path) peers body noted says = routes_have says.1 says.0.prefix says.0.entries noted says.4
layout_has (layouts.Dump six) peers body noted says = by_form (IsTableDump six body) DumpSays noted (λ dumped e. subst HasNotes (sym e.3) refl) says
layout_has (layouts.Message timed wide add_path) peers body noted says =
    by_form (λ (it : Peer × List ℕ). IsRecordedMessage timed wide body it.0 it.1) (MessageSays wide add_path) noted (λ it e. raised_has wide add_path it.0 it.1 noted e.0 e.1 e.2) says
layout_has (layouts.State timed wide) peers body noted says =
    by_form (λ (it : Peer × ℕ). IsStateChange timed wide body it.0 it.1) StateSays noted (λ it e. (let same : noted ≡ updates.without_notes (changes_at it.0 it.1) = cc in subst HasNotes (sym same) (state_has it.0 it.1))) says
layout_has layouts.Other peers body noted says = absurd cc

pub each_has_note : (it : Recorded) (peers : Option (List Peer)) (noted : Noted) → IsReading it peers (Ok (bodies.Routes noted)) → HasNotes noted
each_has_note it peers noted reads = layout_has (layout_of it.kind it.subkind) peers it.body noted reads
