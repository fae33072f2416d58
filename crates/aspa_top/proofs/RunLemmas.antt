-- Line after line: what a run has done where it stops.
use Rattle.std.proofs.Common.{◌≡◌, ℕ, ◌+◌, ◌-◌, ◌<◌, ◌≤◌, List, [], ◌∷◌, ◌++◌, length, Ok, Err, inl, inr, refl, sym, ap, subst, ◌∙◌, arith, zero-add, append_assoc, append-nil}
use Rattle.std.specs.declared.option.Option.{Option}
use Rattle.std.specs.Io.KnownBytes.{append_known}
use Rattle.av_base.specs.Connections.{Agrees}
use Rattle.av_base.specs.Files.{Files}
use Rattle.av_base.specs.Told.{AppendsFront, Grows, Rose}
use Rattle.av_base.proofs.ToldLemmas.{append_known-nil, append_known-append}
use Rattle.av_base.proofs.PouringLemmas.{Grows-refl, written_front, written_part}
use Rattle.connection_calls.specs.World.{World as Ends}
use Rattle.av_base.specs.declared.stop.Stop.{Stop}
use Rattle.av_base.specs.declared.stop.Stop.TheVariants as stops
use Rattle.stream_lines.specs.Counts.{refusals_in}
use Rattle.aspa_top.specs.Moving.{HaveMoved}
use Rattle.aspa_top.specs.declared.working.Working.{Working}
use Rattle.aspa_top.specs.Tasks.{State, start}
use Rattle.aspa_top.specs.Evaluated.{EvaluatedIn, Poured}
use Rattle.aspa_top.specs.Evaluation.{counted, Performs, Evaluates}
use Rattle.aspa_top.specs.Outside.{Keeps, Outside, all_of}
use Rattle.aspa_top.specs.Performing.{DidLine, Performing}
use Rattle.aspa_top.specs.Program.{AreTold, BeginsNext, WentSome, WentThrough, StopsAtFile, StopsWithin, WritesPart}
use Rattle.aspa_top.specs.Standing.{StandsFor}
use Rattle.aspa_top.specs.World.{BeginsAt, ComesTo, GoesOn, Links, Meets, Tells, World, ending}
use Rattle.aspa_top.proofs.EvaluationLemmas.{begins_none, goes_on_behind}
use Rattle.aspa_top.proofs.StandsLemmas.{counted_stands}
use Rattle.aspa_top.proofs.BeginningLemmas.{begins_by, comes_here, earlier, moved_here, stands_moved}
use Rattle.aspa_top.proofs.TextLemmas.{Evaluates-refused}
use Rattle.aspa_top.proofs.StopLemmas.{rose_later}

-- one more line is evaluated
Evaluates-push : (world : World) (before : State) (done : List (List ℕ)) (line text piece : List ℕ) (mid next : State)
    → Evaluates world before done text mid → Performs world mid line piece next
    → Evaluates world before (done ++ line ∷ []) (text ++ piece) next
Evaluates-push world before [] line text piece mid next evaluates performs = record {
  first = piece;
  rest = [];
  next = next;
  performs = rw evaluates.1 at performs;
  goes_on = (refl, refl);
  text_is = ap (λ (t : List ℕ). t ++ piece) evaluates.0 ∙ sym (append-nil piece);
}
Evaluates-push world before (first ∷ more) line text piece mid next evaluates performs = record {
  first = evaluates.first;
  rest = evaluates.rest ++ piece;
  next = evaluates.next;
  performs = evaluates.performs;
  goes_on = Evaluates-push world evaluates.next more line evaluates.rest piece mid next evaluates.goes_on performs;
  text_is = ap (λ (t : List ℕ). t ++ piece) evaluates.text_is ∙ append_assoc evaluates.first evaluates.rest piece;
}

-- ---- all lines

-- where a run stops: some first lines were evaluated, the next went some way, and their text is all that was written or is held
record Reached (world : World) (lines : List (List ℕ)) (begun now : Outside) : Type 0 where
  done : List (List ℕ)
  left : List (List ℕ)
  lines_are : lines ≡ done ++ left
  text : List ℕ
  state : State
  evaluates : (ends : Ends) → ComesTo now.links ends → Evaluates (ending world ends) (start world) done text state
  part : List ℕ
  ticks : ℕ
  moved : State
  begins : (ends : Ends) → ComesTo now.links ends → BeginsNext (ending world ends) state left part ticks moved
  sent : HaveMoved now.links.attempts now.links.wire moved
  added : all_of now ≡ append_known begun.written (text ++ part)
  ticked : now.ticks ≤ begun.ticks + state.judgements + ticks

module _ (world : World) (lines : List (List ℕ)) (begun : Outside) where
  -- before the first line
  pub Performing-start : (working : Working) (held : List ℕ) → StandsFor begun.files begun.links working (start world) → held ≡ []
      → Performing world lines lines begun (record begun { held = held }) working
  Performing-start working held stands none = record {
    done = [];
    lines_are = refl;
    text = [];
    state = start world;
    evaluates = λ ends comes. (refl, refl);
    added = ap (append_known begun.written) none;
    stands = stands;
    moved = record { feeds = record { made = stands.made; sent = λ name feed is. let no_feed : ⊥ = cc in absurd no_feed }; router = tt };
    ticked = omega arith;
  }

  -- after the next line
  pub Performing-next : (left more : List (List ℕ)) (line : List ℕ) (working next : Working) (now new : Outside)
      → Performing world lines left begun now working → left ≡ line ∷ more → Tells now.files world → Keeps now new → DidLine working line now new (Ok next)
      → Agrees new.links.wire new.standings → Performing world lines more begun new next
  Performing-next left more line working next now new so_far first tells keeps did agrees =
      let advances = did.did.goes world tells (counted so_far.state) (counted_stands now.files now.links working so_far.state so_far.stands) in
      record {
        done = so_far.done ++ line ∷ [];
        lines_are = so_far.lines_are ∙ ap (λ (ls : List (List ℕ)). so_far.done ++ ls) first ∙ sym (append_assoc so_far.done (line ∷ []) more);
        text = so_far.text ++ advances.text;
        state = advances.after;
        evaluates = λ ends comes. Evaluates-push (ending world ends) (start world) so_far.done line so_far.text advances.text so_far.state advances.after
            (so_far.evaluates ends (earlier keeps.later ends comes)) (record { reading = did.reading; reads = did.reads; does = advances.does ends comes });
        added = advances.added ∙ ap (λ (m : Option (List ℕ)). append_known m advances.text) so_far.added ∙ append_known-append begun.written so_far.text advances.text;
        stands = advances.stands;
        moved = stands_moved new next advances.after agrees did.did.ready advances.stands;
        ticked = omega (arith, advances.ticked, so_far.ticked);
      }

  -- after some of what is held was written
  pub Performing-poured : (left : List (List ℕ)) (working : Working) (now : Outside) (written : Option (List ℕ)) (faults : ℕ) (held : List ℕ) → append_known written held ≡ all_of now
      → Performing world lines left begun now working → Performing world lines left begun (record now { written = written; sink_faults = faults; held = held }) working
  Performing-poured left working now written faults held same so_far = record {
    done = so_far.done;
    lines_are = so_far.lines_are;
    text = so_far.text;
    state = so_far.state;
    evaluates = so_far.evaluates;
    added = same ∙ so_far.added;
    stands = so_far.stands;
    moved = so_far.moved;
    ticked = so_far.ticked;
  }

  -- a run that stops between two lines
  reached_between : (left : List (List ℕ)) (working : Working) (now : Outside) → Performing world lines left begun now working → Reached world lines begun now
  reached_between left working now so_far = record {
    done = so_far.done;
    left = left;
    lines_are = so_far.lines_are;
    text = so_far.text;
    state = so_far.state;
    evaluates = so_far.evaluates;
    part = [];
    ticks = 0;
    moved = so_far.state;
    begins = λ ends comes. begins_none (ending world ends) so_far.state left;
    sent = so_far.moved;
    added = so_far.added ∙ ap (append_known begun.written) (sym (append-nil so_far.text));
    ticked = omega (arith, so_far.ticked);
  }

  -- a run that stops within a line, of which some of what is held was written then
  reached_within : (left more : List (List ℕ)) (line : List ℕ) (working : Working) (now mid : Outside) (written : Option (List ℕ)) (faults : ℕ) (held : List ℕ) (stop : Stop)
      → append_known written held ≡ all_of mid → Performing world lines left begun now working → left ≡ line ∷ more → Tells now.files world → GoesOn now.links mid.links
      → DidLine working line now mid (Err stop) → Reached world lines begun (record mid { written = written; sink_faults = faults; held = held })
  reached_within left more line working now mid written faults held stop same so_far first tells on did =
      let went = begins_by world working so_far.state line did.reading now mid did.reads tells so_far.stands so_far.moved did.did.part in
      record {
        done = so_far.done;
        left = line ∷ more;
        lines_are = so_far.lines_are ∙ ap (λ (ls : List (List ℕ)). so_far.done ++ ls) first;
        text = so_far.text;
        state = so_far.state;
        evaluates = λ ends comes. so_far.evaluates ends (earlier on ends comes);
        part = went.part;
        ticks = mid.ticks - now.ticks;
        moved = went.moved;
        begins = went.begins;
        sent = went.sent;
        added = same ∙ went.added ∙ ap (λ (m : Option (List ℕ)). append_known m went.part) so_far.added ∙ append_known-append begun.written so_far.text went.part;
        ticked = omega (arith, so_far.ticked);
      }

  -- what was written then is said of its text
  reached_some : (files : Option Files) (before : Links) (now : Outside) (P : List ℕ → Type 0) → Meets files before now.links world → (reached : Reached world lines begun now)
      → P (reached.text ++ reached.part) → WentSome world lines P begun.ticks now.ticks
  reached_some files before now P meets reached holds =
      let here = comes_here files before now.links world meets in
      record {
        done = reached.done;
        left = reached.left;
        lines_are = reached.lines_are;
        text = reached.text;
        state = reached.state;
        evaluates = reached.evaluates world.ends here;
        part = reached.part;
        ticks = reached.ticks;
        moved = reached.moved;
        begins = reached.begins world.ends here;
        sent = moved_here files before now.links world reached.moved meets reached.sent;
        written = holds;
        ticked = reached.ticked;
      }

  -- it is a front of it,
  reached_went : (files : Option Files) (before : Links) (now : Outside) → Meets files before now.links world → Reached world lines begun now → Grows begun.written now.written
      → WentThrough world lines begun.written now.written begun.ticks now.ticks
  reached_went files before now meets reached grows =
      reached_some files before now (λ text. AppendsFront begun.written now.written text) meets reached
      (written_front begun.written now.written now.held (reached.text ++ reached.part) grows reached.added)

  -- all of it where nothing is held,
  reached_all : (files : Option Files) (before : Links) (now : Outside) → Meets files before now.links world → Reached world lines begun now → now.held ≡ []
      → StopsWithin world lines begun.written now.written begun.ticks now.ticks
  reached_all files before now meets reached none =
      reached_some files before now (λ text. now.written ≡ append_known begun.written text) meets reached
      (sym (append_known-nil now.written) ∙ ap (append_known now.written) (sym none) ∙ reached.added)

  -- and not all where something is
  reached_cut : (files : Option Files) (before : Links) (now : Outside) → Meets files before now.links world → AreTold world
      → Reached world lines begun now → Grows begun.written now.written → 0 < length now.held → WritesPart world lines begun.written now.written
  reached_cut files before now meets told reached grows some = λ text end evaluates.
      let here = comes_here files before now.links world meets in
      let behind = goes_on_behind world told.0 told.1 (start world) lines reached.done reached.left reached.text reached.part reached.ticks reached.state reached.moved text end reached.lines_are
      (reached.evaluates world.ends here) (reached.begins world.ends here) evaluates in
      rw behind.1 (written_part begun.written now.written now.held (reached.text ++ reached.part) behind.0 grows reached.added some)

  -- ---- where the lines end

  -- no memory was to be had before the first line
  reached_start : BeginsAt world begun.links → begun.held ≡ [] → Reached world lines begun begun
  reached_start begins none = record {
    done = [];
    left = lines;
    lines_are = refl;
    text = [];
    state = start world;
    evaluates = λ ends comes. (refl, refl);
    part = [];
    ticks = 0;
    moved = start world;
    begins = λ ends comes. begins_none (ending world ends) (start world) lines;
    sent = record { feeds = record { made = begins; sent = λ name feed is. let no_feed : ⊥ = cc in absurd no_feed }; router = tt };
    added = ap (append_known begun.written) none;
    ticked = omega arith;
  }

  pub starved_at_start : begun.held ≡ [] → Meets begun.files begun.links begun.links world → EvaluatedIn world lines begun begun (Err stops.NoMemory)
  starved_at_start none meets =
      let reached : Reached world lines begun begun = reached_start meets.begins none in
      record {
        went = reached_went begun.files begun.links begun meets reached (Grows-refl begun.written);
        ended = tt;
        stopped = λ is. let no : ⊥ = cc in absurd no;
        cut = λ is told. let no : ⊥ = cc in absurd no;
        starved = λ is fine. reached_all begun.files begun.links begun meets reached none;
      }

  -- the sink failed when a piece was written between two lines
  pub ended_between : (files : Option Files) (before : Links) (left : List (List ℕ)) (working : Working) (now : Outside) → Meets files before now.links world
      → Performing world lines left begun now working → Grows begun.written now.written → 0 < length now.held
      → EvaluatedIn world lines begun (record now { held = [] }) (Err stops.Sink)
  ended_between files before left working now meets so_far grows some =
      let reached = reached_between left working now so_far in
      record {
        went = reached_went files before now meets reached grows;
        ended = tt;
        stopped = λ is. let no : ⊥ = cc in absurd no;
        cut = λ is told. reached_cut files before now meets told reached grows some;
        starved = λ is fine. let no : ⊥ = cc in absurd no;
      }

  -- it stops there, where nothing is held
  pub starved_between : (files : Option Files) (before : Links) (left : List (List ℕ)) (working : Working) (now : Outside) → Meets files before now.links world
      → Performing world lines left begun now working → Grows begun.written now.written → now.held ≡ []
      → EvaluatedIn world lines begun (record now { held = [] }) (Err stops.NoMemory)
  starved_between files before left working now meets so_far grows none =
      let reached = reached_between left working now so_far in
      record {
        went = reached_went files before now meets reached grows;
        ended = tt;
        stopped = λ is. let no : ⊥ = cc in absurd no;
        cut = λ is told. let no : ⊥ = cc in absurd no;
        starved = λ is fine. reached_all files before now meets reached none;
      }

  -- all lines were performed, and all their text was written
  pub ended_all : (files : Option Files) (before : Links) (left : List (List ℕ)) (working : Working) (now : Outside) → Meets files before now.links world
      → Performing world lines left begun now working → Grows begun.written now.written → left ≡ [] → now.held ≡ []
      → EvaluatedIn world lines begun (record now { held = [] }) (Ok working.progress.refused)
  ended_all files before left working now meets so_far grows none all =
      let whole : lines ≡ so_far.done = so_far.lines_are ∙ ap (λ (ls : List (List ℕ)). so_far.done ++ ls) none ∙ append-nil so_far.done in
      let evaluates = so_far.evaluates world.ends (comes_here files before now.links world meets) in
      record {
        went = reached_went files before now meets (reached_between left working now so_far) grows;
        ended = record {
          text = so_far.text;
          state = so_far.state;
          evaluates = rw whole evaluates;
          sent = moved_here files before now.links world so_far.state meets so_far.moved;
          written = sym (append_known-nil now.written) ∙ ap (append_known now.written) (sym all) ∙ so_far.added;
          ticked = so_far.ticked;
          counted = so_far.stands.refused ∙ Evaluates-refused world (start world) so_far.done so_far.text so_far.state evaluates ∙ zero-add (refusals_in so_far.text);
        };
        stopped = λ is. let no : ⊥ = cc in absurd no;
        cut = λ is told. let no : ⊥ = cc in absurd no;
        starved = λ is fine. let no : ⊥ = cc in absurd no;
      }

  -- ---- a line ended early, and what is held was written then

  module _ (files : Option Files) (before : Links) (left more : List (List ℕ)) (line : List ℕ) (working : Working) (now mid : Outside)
      (written : Option (List ℕ)) (faults : ℕ) (held : List ℕ) (meets : Meets files before mid.links world) (so_far : Performing world lines left begun now working)
      (first : left ≡ line ∷ more) (tells : Tells now.files world) (on : GoesOn now.links mid.links) (same : append_known written held ≡ all_of mid)
      (grows : Grows begun.written written) where
    -- what was written stops in the text of a line that opens or reads a file
    at_file : DidLine working line now mid (Err stops.Shelf) → held ≡ [] → StopsAtFile world lines begun.written written begun.ticks mid.ticks
    at_file did none =
        let stands = counted_stands now.files now.links working so_far.state so_far.stands in
        let here = comes_here files before mid.links world meets in
        let went = begins_by world working so_far.state line did.reading now mid did.reads tells so_far.stands so_far.moved did.did.part in
        record {
          done = so_far.done;
          line = line;
          more = more;
          lines_are = so_far.lines_are ∙ ap (λ (ls : List (List ℕ)). so_far.done ++ ls) first;
          text = so_far.text;
          state = so_far.state;
          evaluates = so_far.evaluates world.ends (earlier on world.ends here);
          reading = did.reading;
          reads = did.reads;
          uses = did.did.cause.0 (counted so_far.state) stands;
          part = went.part;
          ticks = mid.ticks - now.ticks;
          moved = went.moved;
          begins = went.begins world.ends here;
          sent = moved_here files before mid.links world went.moved meets went.sent;
          written = sym (append_known-nil written) ∙ ap (append_known written) (sym none) ∙ same ∙ went.added
              ∙ ap (λ (m : Option (List ℕ)). append_known m went.part) so_far.added ∙ append_known-append begun.written so_far.text went.part;
          ticked = omega (arith, so_far.ticked);
        }

    -- whatever stopped it
    pub ended_within : (stop then : Stop) → DidLine working line now mid (Err stop) → Poured stop then mid.held held (Rose mid.sink_faults faults) → now.sink_faults ≤ mid.sink_faults → begun.sink_faults ≤ now.sink_faults
        → EvaluatedIn world lines begun (record mid { written = written; sink_faults = faults; held = [] }) (Err then)
    ended_within stops.Shelf stops.Shelf did poured later behind =
        let end : Outside = record mid { written = written; sink_faults = faults; held = held } in
        let reached = reached_within left more line working now mid written faults held stops.Shelf same so_far first tells on did in
        record {
          went = reached_went files before end meets reached grows;
          ended = tt;
          stopped = λ is. at_file did poured;
          cut = λ is told. let no : ⊥ = cc in absurd no;
          starved = λ is fine. let no : ⊥ = cc in absurd no;
        }
    ended_within stops.Shelf stops.Sink did poured later behind =
        let end : Outside = record mid { written = written; sink_faults = faults; held = held } in
        let reached = reached_within left more line working now mid written faults held stops.Shelf same so_far first tells on did in
        record {
          went = reached_went files before end meets reached grows;
          ended = tt;
          stopped = λ is. let no : ⊥ = cc in absurd no;
          cut = λ is told. reached_cut files before end meets told reached grows poured.0;
          starved = λ is fine. let no : ⊥ = cc in absurd no;
        }
    ended_within stops.Shelf stops.NoMemory did poured later behind = absurd poured
    ended_within stops.Sink stops.Sink did poured later behind =
        let end : Outside = record mid { written = written; sink_faults = faults; held = held } in
        let reached = reached_within left more line working now mid written faults held stops.Sink same so_far first tells on did in
        record {
          went = reached_went files before end meets reached grows;
          ended = tt;
          stopped = λ is. let no : ⊥ = cc in absurd no;
          cut = λ is told. reached_cut files before end meets told reached grows (subst (λ (h : List ℕ). 0 < length h) (sym poured) did.did.cause.0);
          starved = λ is fine. let no : ⊥ = cc in absurd no;
        }
    ended_within stops.Sink stops.Shelf did poured later behind = absurd poured
    ended_within stops.Sink stops.NoMemory did poured later behind = absurd poured
    ended_within stops.NoMemory stops.NoMemory did poured later behind =
        let end : Outside = record mid { written = written; sink_faults = faults; held = held } in
        let reached = reached_within left more line working now mid written faults held stops.NoMemory same so_far first tells on did in
        record {
          went = reached_went files before end meets reached grows;
          ended = tt;
          stopped = λ is. let no : ⊥ = cc in absurd no;
          cut = λ is told. let no : ⊥ = cc in absurd no;
          starved = λ is fine. elim poured [
            | inl none ↦ reached_all files before end meets reached none
            | inr failed ↦ absurd (fine (rose_later begun.sink_faults mid.sink_faults faults (omega (arith, later, behind)) failed))
          ];
        }
    ended_within stops.NoMemory stops.Shelf did poured later behind = absurd poured
    ended_within stops.NoMemory stops.Sink did poured later behind = absurd poured
