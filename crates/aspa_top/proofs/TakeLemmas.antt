-- Units that a line takes from a dump.
use Rattle.std.proofs.Common.{◌≡◌, ◌≢◌, ℕ, ◌+◌, ◌<◌, ◌≤◌, Bool, true, false, cond, List, ◌++◌, length, Some, Ok, refl, sym, ◌∙◌, subst, arith}
use Rattle.std.specs.Io.KnownBytes.{append_known}
use Rattle.std.specs.declared.option.Option.{Option}
use Rattle.av_base.specs.Told.{Rose}
use Rattle.av_base.specs.Files.{Files}
use Rattle.report_text.specs.declared.cause.Cause.TheVariants as causes
use Rattle.report_text.specs.Refusals.{of_line, refusal_text}
use Rattle.report_text.specs.Reported.{AddsQuiet}
use Rattle.av_base.specs.declared.stop.Stop.{Stop}
use Rattle.av_base.specs.declared.stop.Stop.TheVariants as stops
use Rattle.analyser.specs.declared.progress.Progress.{Progress}
use Rattle.stream_lines.specs.Frames.{Leaves}
use Rattle.stream_lines.specs.Held.{HeldDump}
use Rattle.stream_lines.specs.Holding.{HoldsDump}
use Rattle.stream_lines.specs.Streams.{Asking, Dump, Taking, TakesUnits}
use Rattle.stream_lines.specs.Taking.{GrewBy, TicksWithinUnits, TookSome, TookUnits}
use Rattle.stream_lines.proofs.FrameLemmas.{Leaves-refl}
use Rattle.aspa_top.specs.declared.task.Task.TheVariants.{Take}
use Rattle.aspa_top.specs.declared.working.Working.{Working}
use Rattle.aspa_top.specs.Bounds.{most}
use Rattle.aspa_top.specs.Outside.{Outside, all_of}
use Rattle.aspa_top.specs.Performing.{Done, EndedEarly, GoesSome}
use Rattle.aspa_top.specs.Standing.{IsBegun, StandsFor}
use Rattle.aspa_top.specs.Tasks.{DoesTask, State, TakesNamed, TakesOpen, after_taking, same_name, taking_of}
use Rattle.aspa_top.specs.Working.{dump_in, refused_in}
use Rattle.aspa_top.specs.World.{Links, World, ending}
use Rattle.aspa_top.proofs.DidLemmas.{done_refused}
use Rattle.aspa_top.proofs.DumpLemmas.{all_done, all_stopped, begins_at, came, some_rest, takes_units}
use Rattle.aspa_top.proofs.StandsLemmas.{HoldsOr-some}

-- the dump is over
pub take_over : (working next : Working) (name : List ℕ) (count : ℕ) (before : HeldDump) (old : Outside) (held : List ℕ) → IsBegun old working
    → dump_in working name ≡ Some before → before.over ≡ true → held ≡ old.held ++ refusal_text working.lines of_line causes.StreamOver
    → next ≡ refused_in working → Done working (Ok (Take name count)) old (record old { held = held }) next
take_over working next name count before old held begun here over added is =
    done_refused working (Ok (Take name count)) old (record old { held = held }) next of_line causes.StreamOver tt (Leaves-refl (λ other. Unit {0}) old.files) (λ n d e. tt)
    refl refl refl (omega arith) refl refl added is begun
    (λ world tells state stands.
    let there = HoldsOr-some old.files (dump_in working name) (state.dumps name) before (stands.dumps name) here in
    let text : List ℕ = refusal_text state.lines of_line causes.StreamOver in
    let after : State = record state { refused = state.refused + 1 } in
    subst (λ (d : Option Dump). TakesNamed d world state name count text after) (sym there.1)
    (subst (λ (b : Bool). TakesOpen b state name count there.0 text after) (sym (sym there.2.over ∙ over)) (refl, refl)))

-- a line that takes and failed was of a dump that is open
pub take_uses : (files : Option Files) (links : Links) (working : Working) (name : List ℕ) (before : HeldDump) (state : State) → dump_in working name ≡ Some before
    → StandsFor files links working state → (dump : Dump) × (state.dumps name ≡ Some dump)
take_uses files links working name before state here stands =
    let held = HoldsOr-some files (dump_in working name) (state.dumps name) before (stands.dumps name) here in (held.0, held.1)

module _ (working : Working) (name : List ℕ) (count : ℕ) (before after : HeldDump) (asking : Asking) (old : Outside)
    (files : Option Files) (opened shelf_faults : ℕ) (written : Option (List ℕ)) (sink_faults : ℕ) (held : List ℕ) (now : ℕ)
    (begun : IsBegun old working) (few : count ≤ most) (here : dump_in working name ≡ Some before)
    (leaves : Leaves (λ other. other ≢ before.file) old.files files) (open_yet : before.over ≡ false)
    (asks : asking ≡ record { line = working.lines; name = name })
    (ticks : TicksWithinUnits asking count before working.progress old.files old.ticks now)
    (quiet : AddsQuiet (all_of old) (append_known written held)) where
  -- what the line does from any state
  does : (world : World) (state : State) (dump : Dump) (text : List ℕ) (end : Taking) → StandsFor old.files old.links working state → state.dumps name ≡ Some dump
      → HoldsDump old.files before dump → TakesUnits asking count (taking_of state dump) text end → DoesTask world state (Take name count) text (after_taking state name end)
  does world state dump text end stands is holds takes =
      takes_units working name before asking old asks world state dump count text end stands is (sym holds.over ∙ open_yet) takes

  -- the units were taken
  pub take_done : (next : Working) (last : Progress) → TookUnits asking count before after working.progress old.files files (all_of old) (append_known written held) last
      → ((q : List ℕ) → dump_in next q ≡ cond (same_name name q) (Some after) (dump_in working q))
      → next ≡ record working { progress = last; dumps = next.dumps }
      → opened ≡ old.opened → after.file ≡ before.file → GrewBy count before after working.progress last
      → Done working (Ok (Take name count)) old
      (record old { files = files; opened = opened; shelf_faults = shelf_faults; written = written; sink_faults = sink_faults; held = held; ticks = now }) next
  take_done next last took dumps is same file grew =
      all_done working name (Take name count) count before after asking old files opened shelf_faults written sink_faults held now begun few here leaves asks quiet
      (λ from text to. TakesUnits asking count from text to) (λ from to text at takes. ticks.within from to text at takes) does next last
      (λ from at. let done = took from at in (done.0, done.1, done.2.text, done.2.takes, done.2.added)) dumps is same file grew

  -- some of the units were taken
  take_part : TookSome asking count before working.progress old.files (all_of old) (append_known written held) old.ticks now → GoesSome working (Ok (Take name count)) old
      (record old { files = files; opened = opened; shelf_faults = shelf_faults; written = written; sink_faults = sink_faults; held = held; ticks = now })
  take_part some = λ world tells state stands.
      let there = HoldsOr-some old.files (dump_in working name) (state.dumps name) before (stands.dumps name) here in
      let at = begins_at working name before asking old asks state there.0 stands there.2 in
      let done = some (taking_of state there.0) at in
      let whole = some_rest asking count (taking_of state there.0) (all_of old) (append_known written held) old.ticks now done in
      record {
        part = done.took.text;
        rest = whole.rest;
        after = after_taking state name whole.end;
        does = λ ends. does (ending world ends) state there.0 (done.took.text ++ whole.rest) whole.end stands there.1 there.2 whole.takes;
        added = done.took.added;
        ticked = omega (arith, ticks.within (taking_of state there.0) whole.end (done.took.text ++ whole.rest) at whole.takes);
        came_to = λ ends dump is.
            came working name before asking old asks (ending world ends) state there.0 count (append_known written held) now stands there.1 (sym there.2.over ∙ open_yet) done;
      }

  pub take_stopped : (stop : Stop) → TookSome asking count before working.progress old.files (all_of old) (append_known written held) old.ticks now
      → (stop ≡ stops.Shelf → Rose old.shelf_faults shelf_faults) → (stop ≡ stops.Sink → (0 < length held) × Rose old.sink_faults sink_faults)
      → EndedEarly working (Ok (Take name count)) old
      (record old { files = files; opened = opened; shelf_faults = shelf_faults; written = written; sink_faults = sink_faults; held = held; ticks = now }) stop
  take_stopped stop some shelf sink =
      all_stopped working name (Take name count) count before after asking old files opened shelf_faults written sink_faults held now begun few here leaves asks quiet
      (λ from text to. TakesUnits asking count from text to) (λ from to text at takes. ticks.within from to text at takes) does stop (take_part some)
      (λ state stands. take_uses old.files old.links working name before state here stands) shelf sink
