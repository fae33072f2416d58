-- What comes of some lines of a script, and of the script; private contracts alone cite it.
use Rattle.std.specs.Prelude.{◌≡◌, ℕ, ◌+◌, ◌<◌, ◌≤◌, ◌⊎◌, false, List, [], ◌++◌, length, IfOk, IsErrOf}
use Rattle.std.specs.declared.option.Option.{Option}
use Rattle.std.specs.declared.result.Result.{Result}
use Rattle.std.specs.declared.result.Result.TheVariants.{Ok, Err}
use Rattle.std.specs.Io.KnownBytes.{prepend_known, IsAtEnd}
use Rattle.av_base.specs.Told.{Rose}
use Rattle.av_text.specs.Lines.{AreWhole, IsPart, lines_in}
use Rattle.report_text.specs.Reported.{AddsFront, AddsLines}
use Rattle.av_base.specs.declared.stop.Stop.{Stop}
use Rattle.av_base.specs.declared.stop.Stop.TheVariants as stops
use Rattle.aspa_top.specs.declared.working.Working.{Working}
use Rattle.aspa_top.specs.Lines.{performed}
use Rattle.aspa_top.specs.Outside.{Keeps, Outside}
use Rattle.aspa_top.specs.Performing.{Performing}
use Rattle.aspa_top.specs.Program.{AreTold, Completes, Ended, IsWhole, Ran, RanIfTold, StarvedIfTold, StopsAtFile, StopsWithin, WentThrough, WritesPart}
use Rattle.aspa_top.specs.Script.{ReadAs, held_of}
use Rattle.aspa_top.specs.Standing.{IsReady}
use Rattle.aspa_top.specs.World.{BeginsAt, Meets, Tells, World}

-- ---- what stopped the lines

-- What is held was written where a line ended early, unless the sink failed in it: then nothing is held any more, or the sink failed now.
-- Where memory ran out that stays the cause.
abbrev pub Poured : Stop → Stop → List ℕ → List ℕ → Type 0 → Type 0
Poured stops.Shelf stops.Shelf held_old held_new failed = held_new ≡ []
Poured stops.Shelf stops.Sink held_old held_new failed = (0 < length held_new) × failed
Poured stops.Shelf stops.NoMemory held_old held_new failed = ⊥
Poured stops.Sink stops.Sink held_old held_new failed = held_new ≡ held_old
Poured stops.Sink stops.Shelf held_old held_new failed = ⊥
Poured stops.Sink stops.NoMemory held_old held_new failed = ⊥
Poured stops.NoMemory stops.NoMemory held_old held_new failed = (held_new ≡ []) ⊎ failed
Poured stops.NoMemory stops.Shelf held_old held_new failed = ⊥
Poured stops.NoMemory stops.Sink held_old held_new failed = ⊥

-- the shelf or the sink stopped the lines only where it counted a fault
pub record StoppedByFault (old new : Outside) (stop : Stop) : Type 0 where
  pub shelf : stop ≡ stops.Shelf → Rose old.shelf_faults new.shelf_faults
  pub sink : stop ≡ stops.Sink → Rose old.sink_faults new.sink_faults

-- the status then
abbrev pub status_of : Stop → ℕ
status_of stops.Shelf = 3
status_of stops.Sink = 4
status_of stops.NoMemory = 5

-- ---- the text

-- how far the lines went in this world, and what of their text was written, whether they ended early or not
pub record EvaluatedIn (world : World) (lines : List (List ℕ)) (old new : Outside) (result : Result ℕ Stop) : Type 0 where
  pub went : WentThrough world lines old.written new.written old.ticks new.ticks
  pub ended : IfOk result (λ refusals. Ended world lines old.written new.written old.ticks new.ticks refusals)
  pub stopped : IsErrOf result stops.Shelf → StopsAtFile world lines old.written new.written old.ticks new.ticks
  pub cut : IsErrOf result stops.Sink → AreTold world → WritesPart world lines old.written new.written
  pub starved : IsErrOf result stops.NoMemory → ¬ Rose old.sink_faults new.sink_faults
      → StopsWithin world lines old.written new.written old.ticks new.ticks

abbrev pub Evaluated : List (List ℕ) → Outside → Outside → Result ℕ Stop → Type 0
Evaluated lines old new result = (world : World) → Meets old.files old.links new.links world → EvaluatedIn world lines old new result

-- These lines were performed, and all their text was written, whatever was done before and whatever comes after them. It was so for all
-- lines that are read as they are.
pub record AllDone (working : Working) (lines : List (List ℕ)) (old new : Outside) (next : Working) : Type 0 where
  pub goes : (world : World) → Tells old.files world → (begun : Outside) (all more own : List (List ℕ)) → ReadAs own lines
      → Performing world all (own ++ more) begun old working → Performing world all more begun new next
  pub ready : IsReady new next
  pub adds : AddsLines old.written new.written old.link_faults new.link_faults

-- or something stopped them
pub record Stopped (working : Working) (lines : List (List ℕ)) (old new : Outside) (stop : Stop) : Type 0 where
  pub goes : (world : World) (begun : Outside) (all more own : List (List ℕ)) → ReadAs own lines → Keeps begun old → Meets begun.files begun.links new.links world
      → Performing world all (own ++ more) begun old working → EvaluatedIn world all begun new (Err stop)
  pub cause : StoppedByFault old new stop
  pub adds : AddsFront old.written new.written old.link_faults new.link_faults

abbrev pub Performed : Working → List (List ℕ) → Outside → Outside → Result Working Stop → Type 0
Performed working lines old new (Ok next) = AllDone working lines old new next
Performed working lines old new (Err stop) = Stopped working lines old new stop

-- ---- a script that is read piece by piece

-- Some bytes were read, and so many may still come. Those in front are whole lines, which were performed, and all their text was written;
-- the others are a part of a line, of which no more is held than says what it is.
pub record ReadSoFar (limit room : ℕ) (left_old left : Option (List ℕ)) (held : List ℕ) (begun now : Outside) (working : Working) : Type 0 where
  pub front : List ℕ
  pub part : List ℕ
  pub told : left_old ≡ prepend_known (front ++ part) left
  pub whole : AreWhole front
  pub is_part : IsPart part
  pub held_is : held ≡ held_of part
  pub size : length (front ++ part) + room ≡ limit
  pub few : working.lines ≤ length front
  pub so_far : (world : World) → Tells begun.files world → BeginsAt world begun.links → (more : List (List ℕ))
      → Performing world (lines_in false front ++ more) more begun now working
  pub ready : IsReady now working
  pub keeps : Keeps begun now
  pub adds : AddsLines begun.written now.written begun.link_faults now.link_faults

-- ---- a script of these bytes, of which some are left

pub record Runs (limit : ℕ) (script : List ℕ) (left : Option (List ℕ)) (script_failed : Type 0) (old new : Outside) (status : ℕ) : Type 0 where
  pub ran : (world : World) → Meets old.files old.links new.links world
      → Ran limit world script left script_failed (Rose old.shelf_faults new.shelf_faults) old.written new.written old.ticks new.ticks status
  pub starved : status ≡ 5 → ¬ Rose old.sink_faults new.sink_faults → (world : World) → Meets old.files old.links new.links world
      → StopsWithin world (performed limit script) old.written new.written old.ticks new.ticks
  pub within : (status ≡ 0) ⊎ (status ≡ 1) → length script ≤ limit
  pub over : status ≡ 6 → limit < length script

-- the same of a script that a source tells, or doesn't, which counted faults perhaps
pub record RunsSource (limit : ℕ) (left_old left_new : Option (List ℕ)) (script_failed : Type 0) (old new : Outside) (status : ℕ) : Type 0 where
  pub ran : RanIfTold limit left_old left_new old.files old.links new.links script_failed (Rose old.shelf_faults new.shelf_faults)
      old.written new.written old.ticks new.ticks status
  pub starved : status ≡ 5 → ¬ Rose old.sink_faults new.sink_faults
      → StarvedIfTold limit left_old old.files old.links new.links old.written new.written old.ticks new.ticks
  pub at_end : (status ≡ 0) ⊎ (status ≡ 1) → IsAtEnd left_new
  pub input_cause : status ≡ 3 → script_failed ⊎ Rose old.shelf_faults new.shelf_faults
  pub sink_cause : status ≡ 4 → Rose old.sink_faults new.sink_faults
  pub complete : Completes limit left_old script_failed (Rose old.shelf_faults new.shelf_faults) (Rose old.sink_faults new.sink_faults) status
  pub whole_lines : IsWhole status ⊎ (status ≡ 3) → ¬ Rose old.shelf_faults new.shelf_faults → AddsLines old.written new.written old.link_faults new.link_faults
  pub adds : AddsFront old.written new.written old.link_faults new.link_faults
