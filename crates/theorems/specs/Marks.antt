-- What routes say of Only-to-Customer (RFC 9234, section 5), over any list of events.
use Rattle.std.specs.Prelude.{◌≡◌, ◌⊎◌, ℕ, zero, suc, false, List, [], ◌∷◌, ◌++◌, length}
use Rattle.std.specs.FinMap as fin
use Rattle.std.specs.declared.option.Option.{Option}
use Rattle.std.specs.declared.option.Option.TheVariants.{Some, None}
use Rattle.std.specs.declared.result.Result.{Result}
use Rattle.std.specs.declared.result.Result.TheVariants.{Ok, Err}
use Rattle.held_bytes.specs.Units.{Begins, BeginsWithNone}
use Rattle.mrt_reader.specs.declared.body.Body.{Body as RecordBody}
use Rattle.mrt_reader.specs.declared.body.Body.TheVariants as bodies
use Rattle.mrt_reader.specs.declared.fault.BodyFault.{BodyFault}
use Rattle.mrt_reader.specs.Bodies as mrt
use Rattle.mrt_reader.specs.Records.{IsRecord, Recorded}
use Rattle.bmp_reader.specs.declared.body.Body.{Body as MessageBody}
use Rattle.bmp_reader.specs.declared.body.Body.TheVariants as sayings
use Rattle.bmp_reader.specs.declared.fault.BmpFault.{BmpFault}
use Rattle.bmp_reader.specs.Bodies as bmp
use Rattle.bmp_reader.specs.Messages.{IsMessage, Sent}
use Rattle.path_model.specs.declared.change.Change.{Change}
use Rattle.path_model.specs.declared.change.Change.TheVariants.{Announce}
use Rattle.path_model.specs.declared.key.Key.{Key}
use Rattle.path_model.specs.declared.otc.Otc.{Otc}
use Rattle.path_model.specs.declared.otc.Otc.TheVariants.{Absent}
use Rattle.path_model.specs.Notes.{announced_of}
use Rattle.path_model.specs.Routes.{performed}
use Rattle.path_model.specs.Trail.{Path}
use Rattle.analyser.specs.declared.event.Event.{Event}
use Rattle.analyser.specs.declared.event.Event.TheVariants as events
use Rattle.analyser.specs.Events.{Happens}
use Rattle.otc_check.specs.Laws.{AllLeave, AreOfRoutes, note_at}
use Rattle.otc_check.specs.Marks.{Marked, mark_of, noted_by}
use Rattle.rib_store.specs.Changes.{IsMarked}
use Rattle.rib_store.specs.State.{State, no_state}
use Rattle.stream_lines.specs.Streams.{Asking, Taking, TakesUnit, TakesUnits}
use Rattle.stream_lines.specs.Units.{Bmp, Known, Mrt}

-- ---- what was said

-- changes of routes in their order, and a note for each announcement among them, in its order
pub record Said : Type 0 where
  pub changes : List Change
  pub notes : List Otc

abbrev pub nothing : Said
nothing = record { changes = []; notes = [] }

abbrev pub joined : Said → Said → Said
joined some more = record { changes = some.changes ++ more.changes; notes = some.notes ++ more.notes }

-- what a record says, and what a message does: one that is refused, or isn't of routes, says nothing
abbrev pub record_says : Result RecordBody BodyFault → Said
record_says (Ok (bodies.Routes noted)) = record { changes = noted.changes; notes = noted.notes }
record_says (Ok (bodies.Peers table)) = nothing
record_says (Ok bodies.Passed) = nothing
record_says (Err fault) = nothing

abbrev pub message_says : Result MessageBody BmpFault → Said
message_says (Ok (sayings.Routes noted)) = record { changes = noted.changes; notes = noted.notes }
message_says (Ok (sayings.Up peer role paths)) = nothing
message_says (Ok sayings.Passed) = nothing
message_says (Err fault) = nothing

-- What comes next in a dump says this: the whole record or message that stands there, by its reading; and nothing where none does.
abbrev pub UnitSays : Known → List ℕ → Said → Type 0
UnitSays (Mrt peers) left said =
    ((it : Recorded) × (rest : List ℕ) × (reading : Result RecordBody BodyFault) × Begins IsRecord left it rest × mrt.IsReading it peers reading × (said ≡ record_says reading))
    ⊎ (BeginsWithNone IsRecord left × (said ≡ nothing))
UnitSays (Bmp view peers) left said =
    ((it : Sent) × (rest : List ℕ) × (reading : Result MessageBody BmpFault) × Begins IsMessage left it rest × bmp.IsReading it view peers reading × (said ≡ message_says reading))
    ⊎ (BeginsWithNone IsMessage left × (said ≡ nothing))

-- so many units are taken of a dump, one after another, and say this
abbrev pub UnitsSay : Asking → ℕ → Taking → Said → Taking → Type 0
UnitsSay asking zero old said new = (said ≡ nothing) × (new ≡ old)
UnitsSay asking (suc count) old said new =
    (text : List ℕ) × (mid : Taking) × (first : Said) × (more : Said) × (old.dump.over ≡ false) × TakesUnit asking old text mid
    × UnitSays old.dump.known old.dump.left first × UnitsSay asking count mid more new × (said ≡ joined first more)

-- ---- events, one after another

-- all that is said here of a state: the analysis, and the marks
pub record Held : Type 0 where
  pub analysis : State
  pub marks : Marked

-- at the start there is nothing
abbrev pub none_held : Held
none_held = record { analysis = no_state; marks = fin.empty }

-- an event that isn't of routes: of the table, of a role, or of the default role
abbrev pub IsOfNoRoutes : Event → Type 0
IsOfNoRoutes (events.Routes changes) = ⊥
IsOfNoRoutes event = Unit {0}

-- so many units of some dump are taken, as `take` and `until` do, and say this
pub record Takes (old new : Held) (more : Said) : Type 0 where
  pub asking : Asking
  pub count : ℕ
  pub first : Taking
  pub last : Taking
  pub from : (first.state ≡ old.analysis) × (first.marks ≡ old.marks)
  pub say : UnitsSay asking count first more last
  pub to : (new.analysis ≡ last.state) × (new.marks ≡ last.marks)

-- another event happens, as lines that amend the table, files and feeds make them, or all verdicts are marked
abbrev pub Amends : Held → Held → Type 0
Amends old new =
    (((event : Event) × IsOfNoRoutes event × Happens old.analysis event new.analysis) ⊎ IsMarked old.analysis new.analysis) × (new.marks ≡ old.marks)

-- all routes go with their marks, as by `clear`
abbrev pub Clears : Held → Held → Type 0
Clears old new = (new.analysis ≡ record old.analysis { routes = fin.empty }) × (new.marks ≡ fin.empty)

-- One of these, and what was said so far before and behind it: behind a clearing it is nothing.
abbrev pub Goes : Held → Said → Held → Said → Type 0
Goes old said new now =
    ((more : Said) × Takes old new more × (now ≡ joined said more)) ⊎ ((Amends old new × (now ≡ said)) ⊎ (Clears old new × (now ≡ nothing)))

-- so many of them, one after another
abbrev pub GoesOn : ℕ → Held → Said → Held → Said → Type 0
GoesOn zero old said new now = (new ≡ old) × (now ≡ said)
GoesOn (suc count) old said new now = (mid : Held) × (between : Said) × Goes old said mid between × GoesOn count mid between new now

-- ---- the law

-- A key without a route has no mark. A key with one has its path and its mark by its last announcement, and nothing took the route since.
abbrev pub IsByLast : Said → Key → Option Path → Otc → Type 0
IsByLast said key None mark = mark ≡ Absent
IsByLast said key (Some path) mark =
    (before : List Change) × (after : List Change) × (said.changes ≡ before ++ Announce key path ∷ after) × AllLeave key after
    × (mark ≡ note_at said.notes (announced_of before))

-- The routes and the marks are what was said since the last clearing, each announcement with its note.
pub record HasMarks (held : Held) (said : Said) : Type 0 where
  pub noted : length said.notes ≡ announced_of said.changes
  pub routes : held.analysis.routes ≡ performed said.changes fin.empty
  pub marks : held.marks ≡ noted_by said.changes said.notes fin.empty
  pub of_routes : AreOfRoutes held.marks held.analysis.routes
  pub by_last : (key : Key) → IsByLast said key (fin.get held.analysis.routes key) (mark_of held.marks key)

pub record MarksAreByLastAnnouncements : Type 0 where
  -- whatever units a line takes, they say something, each by its bytes
  pub each : (asking : Asking) (count : ℕ) (old new : Taking) (text : List ℕ) → TakesUnits asking count old text new
      → (taken : ℕ) × (said : Said) × UnitsSay asking taken old said new
  -- and behind any list of events, from the start on, the routes and their marks are what was said
  pub behind : (count : ℕ) (held : Held) (said : Said) → GoesOn count none_held nothing held said → HasMarks held said
