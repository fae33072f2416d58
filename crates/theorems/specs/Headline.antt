-- The headline: what a run of a script has done when it ends, of all that it met outside.
use Rattle.std.specs.Prelude.{◌≡◌, ◌≢◌, ℕ, ◌≤◌, ◌⊎◌, nat_eq, nat_le, if◌then◌else◌, List, ◌++◌, length, Some, IfSome}
use Rattle.std.specs.Io.KnownBytes.{append_known, IsAtEnd}
use Rattle.std.specs.declared.option.Option.{Option}
use Rattle.av_base.specs.declared.links.Links.{Ghosts as LinksOf}
use Rattle.av_base.specs.declared.shelf.Shelf.{Ghosts as ShelfOf}
use Rattle.av_base.specs.declared.sink.Sink.{Ghosts as SinkOf}
use Rattle.av_base.specs.declared.source.Source.{Ghosts as SourceOf}
use Rattle.av_base.specs.declared.standing.Standing.{Standing}
use Rattle.av_base.specs.Files.{Files}
use Rattle.av_base.specs.Told.{AppendsFront, Rose}
use Rattle.connection_calls.specs.Faults.{BreaksByFault, NewAreUnbroken}
use Rattle.report_text.specs.Reported.{AddsLines, IsWithinRise, unreachables_in}
use Rattle.stream_lines.specs.Counts.{refusals_in}
use Rattle.aspa_top.specs.Evaluation.{Evaluates}
use Rattle.aspa_top.specs.Laws.{HasText, LosesOnlyAtEnd, NeedNoAttempts}
use Rattle.aspa_top.specs.Lines.{performed}
use Rattle.aspa_top.specs.Program.{AreTold, Completes, IsEnding, IsWhole, RanIfTold, StarvedIfTold}
use Rattle.aspa_top.specs.State.{State, start}
use Rattle.aspa_top.specs.Tasks.{feeds_of}
use Rattle.aspa_top.specs.World.{GoesOn, Links, World, linked, names_of, world_of}

-- ---- the outside at one moment

-- What is outside, as far as its objects tell: the bytes of the script that are left, the files, the attempts and connections, and what was
-- written; how the connections stand; the faults that each object counted; and the counter of judgements.
pub record Moment : Type 0 where
  pub script : Option (List ℕ)
  pub files : Option Files
  pub links : Links
  pub written : Option (List ℕ)
  pub standings : List Standing
  pub script_faults : ℕ
  pub shelf_faults : ℕ
  pub link_faults : ℕ
  pub sink_faults : ℕ
  pub ticks : ℕ

abbrev pub moment : {S F K W : Type 0} → SourceOf S → ShelfOf F → LinksOf K → SinkOf W → S → F → K → W → ℕ → Moment
moment S F K W script shelf links out ticks = record {
  script = S.left script;
  files = F.files shelf;
  links = linked (K.attempts links) (K.wire links);
  written = W.written out;
  standings = K.standings links;
  script_faults = S.faults script;
  shelf_faults = F.faults shelf;
  link_faults = K.faults links;
  sink_faults = W.faults out;
  ticks = ticks;
}

-- the object counted a fault, or its count stands at its last value
abbrev pub ScriptFailed : Moment → Moment → Type 0
ScriptFailed old new = Rose old.script_faults new.script_faults

abbrev pub ShelfFailed : Moment → Moment → Type 0
ShelfFailed old new = Rose old.shelf_faults new.shelf_faults

abbrev pub LinksFailed : Moment → Moment → Type 0
LinksFailed old new = Rose old.link_faults new.link_faults

abbrev pub SinkFailed : Moment → Moment → Type 0
SinkFailed old new = Rose old.sink_faults new.sink_faults

-- ---- the text of a script, over known bytes

-- This is the text of the script: each of its lines evaluated from scratch, one after another, over files, attempts and connections. Where the
-- script is longer than it may be, the lines whose LF is among its first so many bytes are.
abbrev pub IsTextOf : ℕ → World → List ℕ → List ℕ → Type 0
IsTextOf limit world script text = (end : State) × Evaluates world (start world) (performed limit script) text end

-- the status of a script with this text, if nothing ends it early: 6 for one that is too long, 1 where a line begins with `! `, and else 0
abbrev pub status_of : ℕ → List ℕ → List ℕ → ℕ
status_of limit script text = if nat_le (length script) limit then (if nat_eq (refusals_in text) 0 then 0 else 1) else 6

-- the whole text was written, and the status is the text's
pub record WritesAll (limit : ℕ) (world : World) (script : List ℕ) (old new : Option (List ℕ)) (status : ℕ) : Type 0 where
  pub text : List ℕ
  pub is : IsTextOf limit world script text
  pub written : new ≡ append_known old text
  pub its_status : status ≡ status_of limit script text

-- For a reader in a hurry: what was written is the one text of the script, whole where nothing failed, and else a front of it.
pub record WritesTheText (limit : ℕ) (world : World) (script : List ℕ) (failed : Type 0) (old new : Option (List ℕ)) (status : ℕ) : Type 0 where
  -- the script has one text at most, and one where no line of it connects a feed or serves routers
  pub one : (one other : List ℕ) → IsTextOf limit world script one → IsTextOf limit world script other → one ≡ other
  pub some : NeedNoAttempts (performed limit script) → HasText world (performed limit script)
  -- where script, shelf and sink didn't fail and memory didn't run out, it was written, and its status is the run's
  pub whole : ¬ failed → status ≢ 5 → WritesAll limit world script old new status
  -- whatever failed, a front of it was
  pub front : (text : List ℕ) → IsTextOf limit world script text → AppendsFront old new text

-- ---- the headline

-- what holds in the world in which the run ended, where script, shelf and links tell it, the links their attempts too
abbrev pub WhereTold : Moment → Moment → (List ℕ → World → Type 0) → Type 0
WhereTold old new Holds =
    IfSome old.script (λ script. IfSome old.files (λ files. IfSome new.links.wire (λ connections.
    AreTold (world_of files old.links.attempts new.links.attempts connections)
    → Holds script (world_of files old.links.attempts new.links.attempts connections))))

-- What a run of a script has done, from one moment to another, when it ends with a status.
pub record Headline (limit : ℕ) (old new : Moment) (status : ℕ) : Type 0 where
  -- The text, the attempts, what was sent and the judgements, at each status, where they are told; the same where memory ran out. The text is
  -- the script's.
  pub ran : RanIfTold limit old.script new.script old.files old.links new.links (ScriptFailed old new) (ShelfFailed old new) old.written new.written old.ticks new.ticks status
  pub starved : status ≡ 5 → ¬ SinkFailed old new → StarvedIfTold limit old.script old.files old.links new.links old.written new.written old.ticks new.ticks
  pub text : WhereTold old new (λ script world. WritesTheText limit world script (ScriptFailed old new ⊎ (ShelfFailed old new ⊎ SinkFailed old new)) old.written new.written status)
  -- When each status comes, and that nothing but a fault, want of memory or the limit ends a run early.
  pub known : IsEnding status
  pub complete : Completes limit old.script (ScriptFailed old new) (ShelfFailed old new) (SinkFailed old new) status
  pub at_end : (status ≡ 0) ⊎ (status ≡ 1) → IsAtEnd new.script
  pub input_cause : status ≡ 3 → ScriptFailed old new ⊎ ShelfFailed old new
  pub sink_cause : status ≡ 4 → SinkFailed old new
  -- Whatever script, shelf and links tell, whole lines were written, and few that say `unreachable`.
  pub whole_lines : IsWhole status ⊎ (status ≡ 3) → ¬ ShelfFailed old new → AddsLines old.written new.written old.link_faults new.link_faults
  pub few_unreachable : (before text : List ℕ) → old.written ≡ Some before → new.written ≡ Some (before ++ text)
      → IsWithinRise (unreachables_in text) old.link_faults new.link_faults
  -- Connections only go on, and one breaks only by a fault; so where the links didn't fail, a feed is lost only at the end of its bytes.
  pub later : GoesOn old.links new.links
  pub unbroken : BreaksByFault old.link_faults new.link_faults old.standings new.standings
  pub new_unbroken : ¬ LinksFailed old new → NewAreUnbroken old.links.wire new.links.wire
  pub lost_at_end : ¬ LinksFailed old new → WhereTold old new (λ script world. (lines : List (List ℕ)) (text : List ℕ) (state : State)
      → Evaluates world (start world) lines text state → LosesOnlyAtEnd world.ends (feeds_of state))
  -- Counts of faults don't fall, and names stay.
  pub script_faults : old.script_faults ≤ new.script_faults
  pub shelf_faults : old.shelf_faults ≤ new.shelf_faults
  pub sink_faults : old.sink_faults ≤ new.sink_faults
  pub names : names_of new.files ≡ names_of old.files
