-- The routes and their marks, behind any list of events.
use Rattle.std.proofs.Common.{◌≡◌, inl, inr, ℕ, zero, suc, false, List, None, Some, refl, sym, ap, subst, ◌∙◌}
use Rattle.std.specs.FinMap as fin
use Rattle.std.specs.Option.{IsSome, unwrap_or}
use Rattle.std.specs.declared.option.Option.{Option}
use Rattle.analyser.specs.declared.event.Event.{Event}
use Rattle.analyser.specs.declared.event.Event.TheVariants as events
use Rattle.analyser.specs.Events.{Happens}
use Rattle.bmp_reader.specs.Bodies.{IsReading as IsMessageReading}
use Rattle.bmp_reader.specs.Coming as messages
use Rattle.bmp_reader.specs.Messages.{Sent}
use Rattle.bmp_reader.proofs.LawLemmas as message_laws
use Rattle.bmp_reader.proofs.ReadingLemmas as message_readings
use Rattle.mrt_reader.specs.Bodies.{IsReading as IsRecordReading}
use Rattle.mrt_reader.specs.Records.{Recorded}
use Rattle.mrt_reader.proofs.RecordLemmas.{one_record}
use Rattle.mrt_reader.proofs.SameLemmas.{reading_same}
use Rattle.path_model.specs.declared.change.Change.{Change}
use Rattle.path_model.specs.declared.change.Change.TheVariants.{Announce, Remove, RemovePeer}
use Rattle.path_model.specs.declared.key.Key.{Key}
use Rattle.path_model.specs.declared.otc.Otc.{Otc}
use Rattle.path_model.specs.declared.otc.Otc.TheVariants.{Absent}
use Rattle.path_model.specs.Key.{key_cmp}
use Rattle.path_model.specs.Routes.{Routes, performed}
use Rattle.path_model.specs.Trail.{Path}
use Rattle.otc_check.specs.Laws.{AreOfRoutes}
use Rattle.otc_check.specs.Marks.{Marked, mark_of, noted_by}
use Rattle.otc_check.proofs.LawLemmas.{last_announced, last_ended, last_withdrawn, others_stay}
use Rattle.otc_check.proofs.RouteLemmas.{are_of_routes}
use Rattle.rib_store.specs.State.{State as Analysis}
use Rattle.stream_lines.specs.Streams.{Asking, Taking, TakesNext, TakesUnit, TakesUnless}
use Rattle.stream_lines.specs.Units.{Bmp, Known, Mrt}
use Rattle.theorems.specs.Marks.{Amends, Goes, GoesOn, HasMarks, Held, IsByLast, IsOfNoRoutes, MarksAreByLastAnnouncements, Said, UnitSays, UnitsSay, message_says, none_held, nothing, record_says}
use Rattle.theorems.proofs.MarkLemmas.{Became, Last, all_left, announced, became_nothing, became_then, coming_told, last_said, never_said, own_announced, own_ended, own_withdrawn, route_of_last, session_ended, units_said, withdrawn}

abbrev no_routes : Routes
no_routes = fin.empty

abbrev no_marks : Marked
no_marks = fin.empty

-- ---- what a unit says is one thing

one_saying : (known : Known) (left : List ℕ) (one other : Said) → UnitSays known left one → UnitSays known left other → one ≡ other
one_saying (Mrt peers) left one other (inl a) (inl b) =
    let same : a.0 ≡ b.0 = (one_record left a.0 b.0 a.1 b.1 a.3 b.3).0 in
    let reading = reading_same b.0 peers a.2 b.2 (subst (λ (it : Recorded). IsRecordReading it peers a.2) same a.4) b.4 in
    a.5 ∙ ap record_says reading ∙ sym b.5
one_saying (Mrt peers) left one other (inl a) (inr b) = absurd (b.0 a.0 a.1 a.3)
one_saying (Mrt peers) left one other (inr a) (inl b) = absurd (a.0 b.0 b.1 b.3)
one_saying (Mrt peers) left one other (inr a) (inr b) = a.1 ∙ sym b.1
one_saying (Bmp view peers) left one other (inl a) (inl b) =
    let both : messages.Whole a.0 a.1 ≡ messages.Whole b.0 b.1 = message_laws.coming_same left (messages.Whole a.0 a.1) (messages.Whole b.0 b.1) a.3 b.3 in
    let same : a.0 ≡ b.0 = cc in
    let reading = message_readings.reading_same b.0 view peers a.2 b.2 (subst (λ (it : Sent). IsMessageReading it view peers a.2) same a.4) b.4 in
    a.5 ∙ ap message_says reading ∙ sym b.5
one_saying (Bmp view peers) left one other (inl a) (inr b) = absurd (b.0 a.0 a.1 a.3)
one_saying (Bmp view peers) left one other (inr a) (inl b) = absurd (a.0 b.0 b.1 b.3)
one_saying (Bmp view peers) left one other (inr a) (inr b) = a.1 ∙ sym b.1

-- and it becomes of the routes and the marks
abbrev Becomes : Taking → Taking → Said → Type 0
Becomes old new said = Became said old.state.routes old.marks new.state.routes new.marks

unit_became : (asking : Asking) (old new : Taking) (text : List ℕ) (said : Said) → old.dump.over ≡ false → TakesUnit asking old text new → UnitSays old.dump.known old.dump.left said
    → Becomes old new said
unit_became asking old new text said is takes says =
    let next : TakesNext asking old text new = subst (λ b. TakesUnless b asking old text new) is takes in
    let told = coming_told asking old new text old.dump.known old.dump.left next.coming next.is_coming next.takes in
    subst (Becomes old new) (one_saying old.dump.known old.dump.left told.said said told.says says) told.became

units_became : (asking : Asking) (count : ℕ) (old new : Taking) (said : Said) → UnitsSay asking count old said new → Becomes old new said
units_became asking zero old new said say =
    subst (Becomes old new) (sym say.0) (became_nothing old.state.routes new.state.routes old.marks new.marks (ap (λ (k : Taking). k.state.routes) say.1) (ap (λ (k : Taking). k.marks) say.1))
units_became asking (suc count) old new said (text, mid, first, more, over, takes, says, rest, is) =
    let one = unit_became asking old mid text first over takes says in
    let others = units_became asking count mid new more rest in
    subst (Becomes old new) (sym is) (became_then first more old.state.routes mid.state.routes new.state.routes old.marks mid.marks new.marks one others)

-- ---- the last that is said of a key

by_last : (said : Said) (key : Key) (routes : Routes) (marks : Marked) → Became said fin.empty fin.empty routes marks → IsByLast said key (fin.get routes key) (mark_of marks key)
by_last said key routes marks became = of_last (last_said key said.changes) where
  none_left : fin.get routes key ≡ None → mark_of marks key ≡ Absent → IsByLast said key (fin.get routes key) (mark_of marks key)
  none_left route mark = subst (λ (o : Option Path). IsByLast said key o (mark_of marks key)) (sym route) mark

  route_is : (changes : List Change) → said.changes ≡ changes → (route : Option Path) → fin.get (performed changes no_routes) key ≡ route → fin.get routes key ≡ route
  route_is changes is route got = ap (λ (r : Routes). fin.get r key) became.routes ∙ ap (λ (cs : List Change). fin.get (performed cs no_routes) key) is ∙ got

  mark_is : (changes : List Change) → said.changes ≡ changes → (mark : Otc) → mark_of (noted_by changes said.notes no_marks) key ≡ mark → mark_of marks key ≡ mark
  mark_is changes is mark got = ap (λ (m : Marked). mark_of m key) became.marks ∙ ap (λ (cs : List Change). mark_of (noted_by cs said.notes no_marks) key) is ∙ got

  of_last : Last key said.changes → IsByLast said key (fin.get routes key) (mark_of marks key)
  of_last (announced before after path is leave) =
      subst (λ (o : Option Path). IsByLast said key o (mark_of marks key))
      (sym (route_is _ is (Some path) (route_of_last before after (Announce key path) key no_routes (Some path) leave (own_announced key path))))
      (before, after, is, leave, mark_is _ is _ (last_announced before after key path said.notes no_marks leave))
  of_last (withdrawn before after is leave) =
      none_left (route_is _ is None (route_of_last before after (Remove key) key no_routes None leave (own_withdrawn key)))
      (mark_is _ is Absent (last_withdrawn before after key said.notes no_marks leave))
  of_last (session_ended before after is leave) =
      none_left (route_is _ is None (route_of_last before after (RemovePeer key.peer) key no_routes None leave (own_ended key)))
      (mark_is _ is Absent (last_ended before after key said.notes no_marks leave))
  of_last (never_said leave) =
      none_left (route_is _ refl None (all_left said.changes key no_routes leave ∙ fin.get-empty key_cmp key))
      (mark_is _ refl Absent (others_stay said.changes key said.notes no_marks leave ∙ ap (λ (o : Option Otc). unwrap_or o Absent) (fin.get-empty key_cmp key)))

none_marked : AreOfRoutes no_marks no_routes
none_marked key some = subst (λ (o : Option Path). IsSome o) (sym (fin.get-empty key_cmp key)) (subst (λ (o : Option Otc). IsSome o) (fin.get-empty key_cmp key) some)

-- ---- events

-- the routes and the marks are what was said
abbrev Stands : Said → Held → Type 0
Stands said held = Became said no_routes no_marks held.analysis.routes held.marks

still : (said : Said) (old new : Held) → Stands said old → new.analysis.routes ≡ old.analysis.routes → new.marks ≡ old.marks → Stands said new
still said old new stands routes marks = record { noted = stands.noted; routes = routes ∙ stands.routes; marks = marks ∙ stands.marks }

event_keeps : (event : Event) (old new : Analysis) → IsOfNoRoutes event → Happens old event new → new.routes ≡ old.routes
event_keeps (events.Routes changes) old new other happens = absurd other
event_keeps (events.Table change) old new other happens = ap (λ (a : Analysis). a.routes) happens.2
event_keeps (events.Role asn role) old new other happens = ap (λ (a : Analysis). a.routes) happens
event_keeps (events.DefaultRole role) old new other happens = ap (λ (a : Analysis). a.routes) happens

amended : (said : Said) (old new : Held) → Stands said old → Amends old new → Stands said new
amended said old new stands (inl event, marks) = still said old new stands (event_keeps event.0 old.analysis new.analysis event.1 event.2) marks
amended said old new stands (inr marked, marks) = still said old new stands (ap (λ (a : Analysis). a.routes) marked.others) marks

goes : (old new : Held) (said now : Said) → Stands said old → Goes old said new now → Stands now new
goes old new said now stands (inl (more, takes, is)) =
    let became = units_became takes.asking takes.count takes.first takes.last more takes.say in
    let here : Became more old.analysis.routes old.marks new.analysis.routes new.marks = record {
      noted = became.noted;
      routes = ap (λ (a : Analysis). a.routes) takes.to.0 ∙ became.routes ∙ ap (λ (a : Analysis). performed more.changes a.routes) takes.from.0;
      marks = takes.to.1 ∙ became.marks ∙ ap (noted_by more.changes more.notes) takes.from.1;
    } in
    subst (λ (s : Said). Stands s new) (sym is) (became_then said more no_routes old.analysis.routes new.analysis.routes no_marks old.marks new.marks stands here)
goes old new said now stands (inr (inl (amends, is))) = subst (λ (s : Said). Stands s new) (sym is) (amended said old new stands amends)
goes old new said now stands (inr (inr (clears, is))) =
    subst (λ (s : Said). Stands s new) (sym is) (became_nothing no_routes new.analysis.routes no_marks new.marks (ap (λ (a : Analysis). a.routes) clears.0) clears.1)

goes_on : (count : ℕ) (old new : Held) (said now : Said) → Stands said old → GoesOn count old said new now → Stands now new
goes_on zero old new said now stands on =
    subst (λ (s : Said). Stands s new) (sym on.1) (still said old new stands (ap (λ (h : Held). h.analysis.routes) on.0) (ap (λ (h : Held). h.marks) on.0))
goes_on (suc count) old new said now stands (mid, between, first, rest) = goes_on count mid new between now (goes old mid said between stands first) rest

has_marks : (held : Held) (said : Said) → Stands said held → HasMarks held said
has_marks held said stands = record {
  noted = stands.noted;
  routes = stands.routes;
  marks = stands.marks;
  of_routes = subst (λ (r : Routes). AreOfRoutes held.marks r) (sym stands.routes)
      (subst (λ (m : Marked). AreOfRoutes m (performed said.changes no_routes)) (sym stands.marks) (are_of_routes said.changes said.notes no_marks no_routes none_marked));
  by_last = λ key. by_last said key held.analysis.routes held.marks stands;
}

pub marks_are_by_last_announcements : MarksAreByLastAnnouncements
marks_are_by_last_announcements = record {
  each = λ asking count old new text takes. let saying = units_said asking count old new text takes in (saying.count, saying.said, saying.say);
  behind = λ count held said on. has_marks held said (goes_on count none_held held nothing said (record { noted = refl; routes = refl; marks = refl }) on);
}
