-- What a run of a script, or of a workload, has done when it ends with a status.
use Rattle.std.specs.Prelude.{◌≡◌, ℕ, ◌+◌, ◌<◌, ◌≤◌, ◌⊎◌, false, List, [], ◌∷◌, ◌++◌, length, codes, IfSome}
use Rattle.std.specs.Io.KnownBytes.{append_known, prepend_known}
use Rattle.std.specs.declared.option.Option.{Option}
use Rattle.std.specs.declared.option.Option.TheVariants.{Some}
use Rattle.std.specs.declared.result.Result.{Result}
use Rattle.av_text.specs.Lines.{lines_in}
use Rattle.av_text.specs.Number.{IsNumber}
use Rattle.stated_workload.specs.Text as demo
use Rattle.av_base.specs.Connections.{Attempt}
use Rattle.av_base.specs.Files.{Files}
use Rattle.av_base.specs.Told.{AppendsFront, AppendsPart}
use Rattle.script_lines.specs.declared.commands.Command.{Command}
use Rattle.script_lines.specs.declared.fault.LineFault.{LineFault}
use Rattle.aspa_top.specs.Lines.{performed}
use Rattle.script_lines.specs.Grammar.{IsReading}
use Rattle.aspa_top.specs.World.{Links, World, world_of}
use Rattle.stream_lines.specs.Counts.{refusals_in}
use Rattle.aspa_top.specs.Moving.{HaveMoved}
use Rattle.aspa_top.specs.Tasks.{State, start}
use Rattle.aspa_top.specs.Evaluation.{Evaluates, Begins, UsesFile, asked_of, counted}

-- The forms of words that the program is called with: `run` performs a script,
abbrev pub IsRun : List (List ℕ) → Type 0
IsRun words = words ≡ codes "run" ∷ []

-- and `demo N` the workload of this number.
pub record IsDemo (words : List (List ℕ)) (seed : ℕ) : Type 0 where
  pub word : List ℕ
  pub words_are : words ≡ codes "demo" ∷ word ∷ []
  pub number : IsNumber word seed

-- words of either form
abbrev pub AreOwn : List (List ℕ) → Type 0
AreOwn words = IsRun words ⊎ ((seed : ℕ) × IsDemo words seed)

-- of the lines that are left the first went some way, perhaps none
abbrev pub BeginsNext : World → State → List (List ℕ) → List ℕ → ℕ → State → Type 0
BeginsNext world state [] part ticks moved = (part ≡ []) × (ticks ≡ 0) × (moved ≡ state)
BeginsNext world state (line ∷ more) part ticks moved = Begins world state line part ticks moved

-- where the run ends, as many attempts were made and such bytes sent
abbrev pub HasMoved : World → State → Type 0
HasMoved world state = HaveMoved world.ends.attempts (Some world.ends.links) state

-- Some first lines were evaluated, and the next went some way, with this said of their text; as many attempts were made, and such bytes
-- were sent. The counter ticked at most as often as the first lines may judge, and the next one on its way.
pub record WentSome (world : World) (lines : List (List ℕ)) (P : List ℕ → Type 0) (ticks_old ticks_new : ℕ) : Type 0 where
  pub done : List (List ℕ)
  pub left : List (List ℕ)
  pub lines_are : lines ≡ done ++ left
  pub text : List ℕ
  pub state : State
  pub evaluates : Evaluates world (start world) done text state
  pub part : List ℕ
  pub ticks : ℕ
  pub moved : State
  pub begins : BeginsNext world state left part ticks moved
  pub sent : HasMoved world moved
  pub written : P (text ++ part)
  pub ticked : ticks_new ≤ ticks_old + state.judgements + ticks

-- a front of that text was written, perhaps all
abbrev pub WentThrough : World → List (List ℕ) → Option (List ℕ) → Option (List ℕ) → ℕ → ℕ → Type 0
WentThrough world lines old new ticks_old ticks_new = WentSome world lines (λ text. AppendsFront old new text) ticks_old ticks_new

-- all of it was written
abbrev pub StopsWithin : World → List (List ℕ) → Option (List ℕ) → Option (List ℕ) → ℕ → ℕ → Type 0
StopsWithin world lines old new ticks_old ticks_new = WentSome world lines (λ text. new ≡ append_known old text) ticks_old ticks_new

-- What was written stops in the text of a line that opens or reads a file: it is the text of the lines before it, followed by a
-- front of its own text. As many attempts were made as there, and such bytes were sent. The counter ticked at most as often as the lines
-- before it may judge, and this one on its way.
pub record StopsAtFile (world : World) (lines : List (List ℕ)) (old new : Option (List ℕ)) (ticks_old ticks_new : ℕ) : Type 0 where
  pub done : List (List ℕ)
  pub line : List ℕ
  pub more : List (List ℕ)
  pub lines_are : lines ≡ done ++ line ∷ more
  pub text : List ℕ
  pub state : State
  pub evaluates : Evaluates world (start world) done text state
  pub reading : Result Command LineFault
  pub reads : IsReading line reading
  pub uses : UsesFile (counted state) (asked_of reading)
  pub part : List ℕ
  pub ticks : ℕ
  pub moved : State
  pub begins : Begins world state line part ticks moved
  pub sent : HasMoved world moved
  pub written : new ≡ append_known old (text ++ part)
  pub ticked : ticks_new ≤ ticks_old + state.judgements + ticks

-- All lines were evaluated and all their text was written, in which so many lines begin with `! `; as many attempts were made, and such
-- bytes were sent. The counter ticked at most as often as the lines may judge.
pub record Ended (world : World) (lines : List (List ℕ)) (old new : Option (List ℕ)) (ticks_old ticks_new refusals : ℕ) : Type 0 where
  pub text : List ℕ
  pub state : State
  pub evaluates : Evaluates world (start world) lines text state
  pub sent : HasMoved world state
  pub written : new ≡ append_known old text
  pub ticked : ticks_new ≤ ticks_old + state.judgements
  pub counted : refusals ≡ refusals_in text

-- The script failed where these first bytes of it had been read: all lines whose LF is among them were evaluated, and all their text was
-- written when the run ended; as many attempts were made, and such bytes were sent.
pub record StopsAtRead (limit : ℕ) (world : World) (script : List ℕ) (left old new : Option (List ℕ)) (ticks_old ticks_new : ℕ) : Type 0 where
  pub taken : List ℕ
  pub told : Some script ≡ prepend_known taken left
  pub within : length taken ≤ limit
  pub refusals : ℕ
  pub ended : Ended world (lines_in false taken) old new ticks_old ticks_new refusals

-- what was written is a front of these lines' text, perhaps all
abbrev pub WritesFront : World → List (List ℕ) → Option (List ℕ) → Option (List ℕ) → Type 0
WritesFront world lines old new =
    (text : List ℕ) (end : State) → Evaluates world (start world) lines text end → AppendsFront old new text

-- what was written, where the sink tells it, isn't all of these lines' text
abbrev pub WritesPart : World → List (List ℕ) → Option (List ℕ) → Option (List ℕ) → Type 0
WritesPart world lines old new =
    (text : List ℕ) (end : State) → Evaluates world (start world) lines text end → IfSome old (λ before. AppendsPart old new text)

-- the statuses that a performed script ends with
abbrev pub IsEnding : ℕ → Type 0
IsEnding status = (status ≡ 0) ⊎ (status ≡ 1) ⊎ (status ≡ 3) ⊎ (status ≡ 4) ⊎ (status ≡ 5) ⊎ (status ≡ 6)

-- the program's statuses
abbrev pub IsStatus : ℕ → Type 0
IsStatus status = (status ≡ 2) ⊎ IsEnding status

-- nothing ended the run early
abbrev pub IsWhole : ℕ → Type 0
IsWhole status = (status ≡ 0) ⊎ (status ≡ 1) ⊎ (status ≡ 6)

-- all attempts are told: no memory was wanting to list one
abbrev pub AreTold : World → Type 0
AreTold world = (attempts : List Attempt) × (world.ends.attempts ≡ Some attempts)

-- What was written, and how often the counter ticked, at each status. The text depends on the script and the world alone, and not on
-- how anything was read or sent or how the text was written.
pub record Ran (limit : ℕ) (world : World) (script : List ℕ) (left : Option (List ℕ)) (script_failed shelf_failed : Type 0)
    (old new : Option (List ℕ)) (ticks_old ticks_new status : ℕ) : Type 0 where
  -- at every status: what was written is a front of the script's text, and it is known how far the run went
  pub front : AreTold world → WritesFront world (performed limit script) old new
  pub went : WentThrough world (performed limit script) old new ticks_old ticks_new
  -- at 0, 1 and 6
  pub refusals : ℕ
  pub ended : IsWhole status → Ended world (performed limit script) old new ticks_old ticks_new refusals
  -- 0: no line of the text begins with `! `. 1: one does. 6: the script is over its limit.
  pub clean : status ≡ 0 → (refusals ≡ 0) × (length script ≤ limit)
  pub refused : status ≡ 1 → (0 < refusals) × (length script ≤ limit)
  pub over : status ≡ 6 → limit < length script
  -- 3: the script failed, where the text of all lines that had come was written, or the shelf did at a line that opens or reads a file
  pub stopped : status ≡ 3 → (script_failed × StopsAtRead limit world script left old new ticks_old ticks_new)
      ⊎ (shelf_failed × StopsAtFile world (performed limit script) old new ticks_old ticks_new)
  -- 4: not all of the text was written
  pub cut : status ≡ 4 → AreTold world → WritesPart world (performed limit script) old new

-- the same of a script that tells its bytes, over a shelf that tells its files and links that tell their connections
abbrev pub RanIfTold : ℕ → Option (List ℕ) → Option (List ℕ) → Option Files → Links → Links → Type 0 → Type 0 → Option (List ℕ) → Option (List ℕ) → ℕ → ℕ → ℕ → Type 0
RanIfTold limit script left files links_old links_new script_failed shelf_failed old new ticks_old ticks_new status =
    IfSome script (λ bytes. IfSome files (λ told. IfSome links_new.wire (λ connections.
    Ran limit (world_of told links_old.attempts links_new.attempts connections) bytes left script_failed shelf_failed
    old new ticks_old ticks_new status)))

-- Where memory ran out, and the sink didn't fail: what was written is the whole text of some first lines and of what the next one had added,
-- which account for each attempt, each byte sent and each judgement counted.
abbrev pub StarvedIfTold : ℕ → Option (List ℕ) → Option Files → Links → Links → Option (List ℕ) → Option (List ℕ) → ℕ → ℕ → Type 0
StarvedIfTold limit script files links_old links_new old new ticks_old ticks_new =
    IfSome script (λ bytes. IfSome files (λ told. IfSome links_new.wire (λ connections.
    StopsWithin (world_of told links_old.attempts links_new.attempts connections) (performed limit bytes) old new ticks_old ticks_new)))

-- Where neither the script nor the shelf nor the sink failed, a script within its limit ends with 0 or 1, and a longer one with 6; or
-- memory ran out.
pub record Completes (limit : ℕ) (script : Option (List ℕ)) (script_failed shelf_failed sink_failed : Type 0) (status : ℕ) : Type 0 where
  pub within : ¬ script_failed → ¬ shelf_failed → ¬ sink_failed
      → (bytes : List ℕ) → script ≡ Some bytes → length bytes ≤ limit → (status ≡ 0) ⊎ (status ≡ 1) ⊎ (status ≡ 5)
  pub beyond : ¬ script_failed → ¬ shelf_failed → ¬ sink_failed
      → (bytes : List ℕ) → script ≡ Some bytes → limit < length bytes → (status ≡ 6) ⊎ (status ≡ 5)

-- What the workload of a number has written when it ends with a status: always a front of its text; at 0 the whole, and at 4 not all.
pub record Demonstrates (seed : ℕ) (old new : Option (List ℕ)) (status : ℕ) : Type 0 where
  pub front : demo.WritesFront seed old new
  pub whole : status ≡ 0 → demo.WritesText seed old new
  pub cut : status ≡ 4 → demo.WritesPart seed old new
  pub ends : (status ≡ 0) ⊎ (status ≡ 4) ⊎ (status ≡ 5)
