-- What performing a line did, from one moment to another, and performing all; private contracts alone cite it.
use Rattle.std.specs.Prelude.{◌≡◌, ℕ, ◌+◌, ◌-◌, ◌<◌, ◌≤◌, ◌⊎◌, List, ◌++◌, length}
use Rattle.std.specs.declared.result.Result.{Result}
use Rattle.std.specs.declared.result.Result.TheVariants.{Ok, Err}
use Rattle.std.specs.Io.KnownBytes.{append_known}
use Rattle.av_base.specs.Told.{Rose}
use Rattle.connection_calls.specs.World.{World as Ends}
use Rattle.report_text.specs.Reported.{AddsFront, AddsLines}
use Rattle.script_lines.specs.declared.commands.Command.{Command}
use Rattle.script_lines.specs.declared.fault.LineFault.{LineFault}
use Rattle.script_lines.specs.Grammar.{IsReading}
use Rattle.av_base.specs.declared.stop.Stop.{Stop}
use Rattle.av_base.specs.declared.stop.Stop.TheVariants as stops
use Rattle.aspa_top.specs.declared.task.Task.{Task}
use Rattle.aspa_top.specs.declared.working.Working.{Working}
use Rattle.aspa_top.specs.Evaluation.{Asked, CostsWhatItCameTo, DoesAsked, Evaluates, UsesFile, asked_of}
use Rattle.aspa_top.specs.Outside.{Outside, all_of}
use Rattle.aspa_top.specs.Standing.{IsReady, StandsFor}
use Rattle.aspa_top.specs.Moving.{HaveMoved}
use Rattle.aspa_top.specs.Tasks.{State, Moves, start}
use Rattle.aspa_top.specs.Working.{counted_in}
use Rattle.aspa_top.specs.World.{ComesTo, World, Tells, ending}

-- ---- a line that is done

-- what is asked for is done: its text is added, the counter ticks at most as often as it may judge, and the working state goes on
pub record Advances (world : World) (state : State) (asked : Asked) (old new : Outside) (next : Working) : Type 0 where
  pub text : List ℕ
  pub after : State
  pub does : (ends : Ends) → ComesTo new.links ends → DoesAsked (ending world ends) state asked text after
  pub added : all_of new ≡ append_known (all_of old) text
  pub stands : StandsFor new.files new.links next after
  pub ticked : new.ticks + state.judgements ≤ old.ticks + after.judgements

-- in whatever world the shelf tells, and from whatever evaluation the working state stands for
abbrev pub Goes : Working → Asked → Outside → Outside → Working → Type 0
Goes working asked old new next = (world : World) → Tells old.files world → (state : State) → StandsFor old.files old.links working state
    → Advances world state asked old new next

-- Whatever the world tells, whole lines were added too, of which no more say that a feed's place wasn't to be had than faults were counted.
pub record Done (working : Working) (asked : Asked) (old new : Outside) (next : Working) : Type 0 where
  pub goes : Goes working asked old new next
  pub ready : IsReady new next
  pub lines : next.lines ≡ working.lines
  pub adds : AddsLines (all_of old) (all_of new) old.link_faults new.link_faults

-- ---- a line that ended early

-- a front of its own text was added, and the counter ticked at most as often as it may judge, and as what it came to may
pub record Went (world : World) (state : State) (asked : Asked) (old new : Outside) : Type 0 where
  pub part : List ℕ
  pub rest : List ℕ
  pub after : State
  pub does : (ends : Ends) → DoesAsked (ending world ends) state asked (part ++ rest) after
  pub added : all_of new ≡ append_known (all_of old) part
  pub ticked : new.ticks - old.ticks ≤ after.judgements - state.judgements
  pub came_to : (ends : Ends) → CostsWhatItCameTo (ending world ends) state asked part (new.ticks - old.ticks)

abbrev pub GoesSome : Working → Asked → Outside → Outside → Type 0
GoesSome working asked old new = (world : World) → Tells old.files world → (state : State) → StandsFor old.files old.links working state
    → Went world state asked old new

-- a task on connections made some of its moves, a part of its text was added, and the counter ticked at most as often as they may judge
pub record Moved (world : World) (state : State) (task : Task) (old new : Outside) : Type 0 where
  pub part : List ℕ
  pub after : State
  pub moves : (ends : Ends) → ComesTo new.links ends → Moves (ending world ends) state task part after
  pub added : all_of new ≡ append_known (all_of old) part
  pub sent : HaveMoved new.links.attempts new.links.wire after
  pub ticked : new.ticks - old.ticks ≤ after.judgements - state.judgements

abbrev pub MovesPart : Working → Task → Outside → Outside → Type 0
MovesPart working task old new = (world : World) (state : State) → StandsFor old.files old.links working state → Moved world state task old new

-- it did nothing, or added a front of its text, or made some moves on connections
abbrev pub GoesPart : Working → Asked → Outside → Outside → Type 0
GoesPart working asked old new =
    ((new.links ≡ old.links) × (all_of new ≡ all_of old) × (new.ticks ≡ old.ticks))
    ⊎ ((new.links ≡ old.links) × GoesSome working asked old new)
    ⊎ ((task : Task) × (asked ≡ Ok task) × MovesPart working task old new)

-- it opens or reads a file
abbrev pub Uses : Working → Asked → Outside → Type 0
Uses working asked old = (state : State) → StandsFor old.files old.links working state → UsesFile state asked

-- what stopped it
abbrev pub IsStoppedBy : Working → Asked → Outside → Outside → Stop → Type 0
IsStoppedBy working asked old new stops.Shelf = Uses working asked old × Rose old.shelf_faults new.shelf_faults
IsStoppedBy working asked old new stops.Sink = (0 < length new.held) × Rose old.sink_faults new.sink_faults
IsStoppedBy working asked old new stops.NoMemory = Unit {0}

-- Whatever the world tells, it added a front of such lines.
pub record EndedEarly (working : Working) (asked : Asked) (old new : Outside) (stop : Stop) : Type 0 where
  pub part : GoesPart working asked old new
  pub adds : AddsFront (all_of old) (all_of new) old.link_faults new.link_faults
  pub cause : IsStoppedBy working asked old new stop

-- ---- a line

-- it is done, or ended early
abbrev pub Did : Working → Asked → Outside → Outside → Result Working Stop → Type 0
Did working asked old new (Ok next) = Done working asked old new next
Did working asked old new (Err stop) = EndedEarly working asked old new stop

-- a line is read, and counted, and what it asks for is done
pub record DidLine (working : Working) (line : List ℕ) (old new : Outside) (result : Result Working Stop) : Type 0 where
  pub reading : Result Command LineFault
  pub reads : IsReading line reading
  pub did : Did (counted_in working) (asked_of reading) old new result

-- ---- all lines

-- The lines so far were evaluated, and all their text is written or held.
pub record Performing (world : World) (lines left : List (List ℕ)) (begun now : Outside) (working : Working) : Type 0 where
  pub done : List (List ℕ)
  pub lines_are : lines ≡ done ++ left
  pub text : List ℕ
  pub state : State
  pub evaluates : (ends : Ends) → ComesTo now.links ends → Evaluates (ending world ends) (start world) done text state
  pub added : all_of now ≡ append_known begun.written text
  pub stands : StandsFor now.files now.links working state
  pub moved : HaveMoved now.links.attempts now.links.wire state
  pub ticked : now.ticks ≤ begun.ticks + state.judgements
