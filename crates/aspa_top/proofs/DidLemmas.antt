-- What a line did, put together from what its parts say.
use Rattle.std.proofs.Common.{◌≡◌, ℕ, ◌+◌, ◌<◌, ◌≤◌, List, ◌++◌, length, Some, Ok, Err, IsErrAnd, inl, inr, refl, sym, ap, subst, ◌∙◌, arith}
use Rattle.std.specs.declared.option.Option.{Option}
use Rattle.std.specs.declared.result.Result.{Result}
use Rattle.std.specs.Io.KnownBytes.{append_known}
use Rattle.av_base.specs.Told.{Rose}
use Rattle.report_text.specs.declared.cause.Cause.{Cause}
use Rattle.report_text.specs.Laws.{IsPlaceInLine}
use Rattle.report_text.specs.Refusals.{AnyPlace, refusal_text}
use Rattle.report_text.specs.Reported.{AddsFront, AddsLines}
use Rattle.av_base.specs.declared.stop.Stop.{Stop}
use Rattle.av_base.specs.declared.stop.Stop.TheVariants as stops
use Rattle.stream_lines.specs.Frames.{Leaves}
use Rattle.stream_lines.specs.Held.{HeldDump}
use Rattle.aspa_top.specs.declared.working.Working.{Working}
use Rattle.aspa_top.specs.Evaluation.{Asked, DoesAsked}
use Rattle.aspa_top.specs.Outside.{Outside, all_of}
use Rattle.aspa_top.specs.Performing.{Did, Done, EndedEarly, GoesPart, GoesSome, IsStoppedBy}
use Rattle.aspa_top.specs.Standing.{IsBegun, StandsFor}
use Rattle.aspa_top.specs.Tasks.{State}
use Rattle.aspa_top.specs.Working.{dump_in, refused_in}
use Rattle.aspa_top.specs.World.{World, Tells, ending}
use Rattle.aspa_top.proofs.ReadyLemmas.{kept_refused, ready_streams}
use Rattle.aspa_top.proofs.ReportingLemmas.{front_none, text_refused}
use Rattle.aspa_top.proofs.StandsLemmas.{StandsFor-leaves, Tells-ending, added_text, stands_refused}

module _ (working : Working) (asked : Asked) (old new : Outside) where
  -- a line that ended early for this
  pub did_err : (result : Result Working Stop) (stop : Stop) → IsErrAnd result (λ e. e ≡ stop) → EndedEarly working asked old new stop → Did working asked old new result
  did_err (Ok next) stop is ended = absurd is
  did_err (Err e) stop is ended = subst (EndedEarly working asked old new) (sym is) ended

  -- nothing of it was done, for want of memory
  pub nothing : new.links ≡ old.links → all_of new ≡ all_of old → new.ticks ≡ old.ticks → old.link_faults ≤ new.link_faults → EndedEarly working asked old new stops.NoMemory
  nothing links all ticks later = record { part = inl (links, all, ticks); adds = front_none (all_of old) (all_of new) old.link_faults new.link_faults later all; cause = tt }

  -- a front of its text was added
  pub some_done : (stop : Stop) → new.links ≡ old.links → GoesSome working asked old new → AddsFront (all_of old) (all_of new) old.link_faults new.link_faults
      → IsStoppedBy working asked old new stop → EndedEarly working asked old new stop
  some_done stop links some adds cause = record { part = inr (inl (links, some)); adds = adds; cause = cause }

  -- The line is refused. What is held of dumps and names stays, and so does what is left of their files.
  pub done_refused : {P : ℕ → Type 0} (next : Working) (place : AnyPlace) (cause : Cause) → IsPlaceInLine place
      → Leaves P old.files new.files → ((name : List ℕ) (kept : HeldDump) → dump_in working name ≡ Some kept → P kept.file)
      → new.links ≡ old.links → new.written ≡ old.written → new.ticks ≡ old.ticks → old.opened ≤ new.opened → new.standings ≡ old.standings → new.link_faults ≡ old.link_faults
      → new.held ≡ old.held ++ refusal_text working.lines place cause → next ≡ refused_in working → IsBegun old working
      → ((world : World) → Tells old.files world → (state : State) → StandsFor old.files old.links working state
      → DoesAsked world state asked (refusal_text state.lines place cause) (record state { refused = state.refused + 1 }))
      → Done working asked old new next
  done_refused {P} next place cause in_line leaves given links written ticks opened stands faults added is begun does = record {
    goes = λ world tells state stood.
        let stayed = StandsFor-leaves old.files new.files old.links working state leaves given stood in
        record {
          text = refusal_text state.lines place cause;
          after = record state { refused = state.refused + 1 };
          does = λ ends comes. does (ending world ends) (Tells-ending old.files world ends tells) state stood;
          added = ap (λ (w : Option (List ℕ)). append_known w new.held) written
              ∙ added_text old.written old.held new.held (refusal_text state.lines place cause) (added ∙ ap (λ (n : ℕ). old.held ++ refusal_text n place cause) stood.lines);
          stands = subst (λ l. StandsFor new.files l next (record state { refused = state.refused + 1 })) (sym links) (stands_refused new.files old.links working next state is stayed);
          ticked = omega (arith, ticks);
        };
    ready = ready_streams old new working next opened stands begun (kept_refused working next is);
    lines = ap (λ (w : Working). w.lines) is;
    adds = subst (λ (w : Option (List ℕ)). AddsLines (all_of old) (append_known w new.held) old.link_faults new.link_faults) (sym written)
        (subst (λ (n : ℕ). AddsLines (all_of old) (append_known old.written new.held) old.link_faults n) (sym faults)
        (text_refused working.lines place cause old.held new.held in_line added old.written old.link_faults));
  }

-- a call that writes pieces is stopped by the sink, or for want of memory
pub stopped_by_sink : (working : Working) (asked : Asked) (old new : Outside) (stop : Stop) → (stop ≡ stops.Shelf → ⊥) → (stop ≡ stops.Sink → 0 < length new.held)
    → (stop ≡ stops.Sink → Rose old.sink_faults new.sink_faults) → IsStoppedBy working asked old new stop
stopped_by_sink working asked old new stops.Shelf no_shelf some rose = absurd (no_shelf refl)
stopped_by_sink working asked old new stops.Sink no_shelf some rose = (some refl, rose refl)
stopped_by_sink working asked old new stops.NoMemory no_shelf some rose = tt

-- What is held may be written first: what was done then was done.
module _ (working : Working) (asked : Asked) (old : Outside) (written : Option (List ℕ)) (faults : ℕ) (held : List ℕ) (same : append_known written held ≡ all_of old)
    (later : old.sink_faults ≤ faults) where
  abbrev poured : Outside
  poured = record old { written = written; sink_faults = faults; held = held }

  went_poured : (new : Outside) → GoesPart working asked poured new → GoesPart working asked old new
  went_poured new (inl none) = inl (none.0, none.1 ∙ same, none.2)
  went_poured new (inr (inl some)) = inr (inl (
    some.0,
    λ world tells state stands.
        let went = some.1 world tells state stands in
        record {
          part = went.part;
          rest = went.rest;
          after = went.after;
          does = went.does;
          added = went.added ∙ ap (λ (all : Option (List ℕ)). append_known all went.part) same;
          ticked = went.ticked;
          came_to = went.came_to;
        },
  ))
  went_poured new (inr (inr (task, is, moves))) = inr (inr (
    task,
    is,
    λ world state stands.
        let moved = moves world state stands in
        record {
          part = moved.part;
          after = moved.after;
          moves = moved.moves;
          added = moved.added ∙ ap (λ (all : Option (List ℕ)). append_known all moved.part) same;
          sent = moved.sent;
          ticked = moved.ticked;
        },
  ))

  cause_poured : (new : Outside) (stop : Stop) → IsStoppedBy working asked poured new stop → IsStoppedBy working asked old new stop
  cause_poured new stops.Shelf cause = cause
  cause_poured new stops.Sink cause = (cause.0, let rose = cause.1 in omega (arith, rose, later))
  cause_poured new stops.NoMemory cause = tt

  pub did_poured : (new : Outside) (result : Result Working Stop) → Did working asked poured new result → Did working asked old new result
  did_poured new (Ok next) done = record {
    goes = λ world tells state stands.
        let does = done.goes world tells state stands in
        record {
          text = does.text;
          after = does.after;
          does = does.does;
          added = does.added ∙ ap (λ (all : Option (List ℕ)). append_known all does.text) same;
          stands = does.stands;
          ticked = does.ticked;
        };
    ready = done.ready;
    lines = done.lines;
    adds = subst (λ (all : Option (List ℕ)). AddsLines all (all_of new) old.link_faults new.link_faults) same done.adds;
  }
  did_poured new (Err stop) ended = record {
    part = went_poured new ended.part;
    adds = subst (λ (all : Option (List ℕ)). AddsFront all (all_of new) old.link_faults new.link_faults) same ended.adds;
    cause = cause_poured new stop ended.cause;
  }

  -- the sink failed in it
  pub pour_stopped : 0 < length held → Rose old.sink_faults faults → EndedEarly working asked old poured stops.Sink
  pour_stopped some rose = record { part = inl (refl, same, refl); adds = front_none (all_of old) (all_of poured) old.link_faults old.link_faults (omega arith) same; cause = (some, rose) }
