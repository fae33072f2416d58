-- The text of a script, by evaluating each line from scratch: from the world, what the lines before have left, and the line itself.
use Rattle.std.specs.Prelude.{◌≡◌, ℕ, ◌+◌, ◌-◌, ◌≤◌, ◌⊎◌, List, [], ◌∷◌, ◌++◌}
use Rattle.std.specs.declared.option.Option.{Option}
use Rattle.std.specs.declared.option.Option.TheVariants.{Some, None}
use Rattle.std.specs.declared.result.Result.{Result}
use Rattle.std.specs.declared.result.Result.TheVariants.{Ok, Err}
use Rattle.script_lines.specs.declared.commands.Command.{Command}
use Rattle.script_lines.specs.declared.fault.LineFault.{LineFault}
use Rattle.script_lines.specs.declared.fault.LineFault.TheVariants.{Long, Command as NoCommand, Words, Number, NoMemory}
use Rattle.script_lines.specs.Grammar.{IsReading}
use Rattle.report_text.specs.declared.cause.Cause.{Cause}
use Rattle.report_text.specs.declared.cause.Cause.TheVariants as causes
use Rattle.report_text.specs.Refusals.{of_line}
use Rattle.aspa_top.specs.declared.task.Task.{Task}
use Rattle.aspa_top.specs.Task.{task_of}
use Rattle.aspa_top.specs.Tasks.{State, Refuses, DoesTask, Moves, TaskCostsWhatItCameTo, TaskUsesFile}
use Rattle.aspa_top.specs.World.{World}

-- the cause for which a line is refused; want of memory is none
abbrev pub line_cause : LineFault → Option Cause
line_cause Long = Some causes.LongLine
line_cause NoCommand = Some causes.NoCommand
line_cause Words = Some causes.Words
line_cause Number = Some causes.Number
line_cause NoMemory = None

-- what is asked for, or the cause for which it is refused
abbrev pub Asked : Type 0
Asked = Result Task (Option Cause)

abbrev pub asked_of : Result Command LineFault → Asked
asked_of (Ok command) = Ok (task_of command)
asked_of (Err fault) = Err (line_cause fault)

-- a line is refused for a cause
abbrev pub RefusesFor : Option Cause → State → List ℕ → State → Type 0
RefusesFor None state text next = ⊥
RefusesFor (Some cause) state text next = Refuses state of_line cause text next

-- What is written of what is asked for, and what it leaves. The state counts the line already.
abbrev pub DoesAsked : World → State → Asked → List ℕ → State → Type 0
DoesAsked world state (Ok task) text next = DoesTask world state task text next
DoesAsked world state (Err cause) text next = RefusesFor cause state text next

-- what a line that was read so writes, and what it leaves
abbrev pub Does : World → State → Result Command LineFault → List ℕ → State → Type 0
Does world state reading text next = DoesAsked world state (asked_of reading) text next

-- every line counts
abbrev pub counted : State → State
counted state = record state { lines = state.lines + 1 }

-- one line is performed
pub record Performs (world : World) (before : State) (line text : List ℕ) (next : State) : Type 0 where
  pub reading : Result Command LineFault
  pub reads : IsReading line reading
  pub does : Does world (counted before) reading text next

-- a first line is performed, and then more lines
pub record PerformsFirst (world : World) (before : State) (line text : List ℕ) (more : State → List ℕ → Type 0) : Type 0 where
  pub first : List ℕ
  pub rest : List ℕ
  pub next : State
  pub performs : Performs world before line first next
  pub goes_on : more next rest
  pub text_is : text ≡ first ++ rest

-- the text of some lines, one after another, and what they leave
abbrev pub Evaluates : World → State → List (List ℕ) → List ℕ → State → Type 0
Evaluates world before [] text end = (text ≡ []) × (end ≡ before)
Evaluates world before (line ∷ more) text end = PerformsFirst world before line text (λ next rest. Evaluates world next more rest end)

-- what wrote this part of its text ticked no more often than what it came to may
abbrev pub CostsWhatItCameTo : World → State → Asked → List ℕ → ℕ → Type 0
CostsWhatItCameTo world state (Ok task) part ticks = TaskCostsWhatItCameTo world state task part ticks
CostsWhatItCameTo world state (Err cause) part ticks = Unit {0}

-- a line wrote a front of its own text, and ticked no more often than the whole line may, nor than what it came to may
pub record WritesSome (world : World) (before : State) (line part : List ℕ) (ticks : ℕ) : Type 0 where
  pub own : List ℕ
  pub next : State
  pub performs : Performs world before line own next
  pub rest : List ℕ
  pub whole : own ≡ part ++ rest
  pub judged : ticks ≤ next.judgements - before.judgements
  pub came_to : CostsWhatItCameTo world (counted before) (asked_of performs.reading) part ticks

-- a line on connections made some of its moves, perhaps all, and wrote this part of its text
pub record MovesSome (world : World) (before : State) (line part : List ℕ) (ticks : ℕ) (moved : State) : Type 0 where
  pub command : Command
  pub reads : IsReading line (Ok command)
  pub moves : Moves world (counted before) (task_of command) part moved
  pub judged : ticks ≤ moved.judgements - before.judgements

-- A line went some way, and ended early: it did nothing, it wrote a front of its own text, or it made some moves on connections. The feeds
-- stand as `moved` says, and the router that was served last.
abbrev pub Begins : World → State → List ℕ → List ℕ → ℕ → State → Type 0
Begins world before line part ticks moved = ((part ≡ []) × (ticks ≡ 0) × (moved ≡ before))
    ⊎ (WritesSome world before line part ticks × (moved ≡ before))
    ⊎ MovesSome world before line part ticks moved

-- what opens or reads a file
abbrev pub UsesFile : State → Asked → Type 0
UsesFile state (Ok task) = TaskUsesFile state task
UsesFile state (Err cause) = ⊥
