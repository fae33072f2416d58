-- How far a line went that was read, and what becomes of the links meanwhile.
use Rattle.std.proofs.Common.{◌≡◌, ℕ, ◌-◌, ◌*◌, ◌≤◌, List, [], ◌++◌, None, Some, Ok, Err, inl, inr, refl, sym, ap, subst, ◌∙◌, arith}
use Rattle.std.specs.declared.option.Option.{Option}
use Rattle.std.specs.declared.result.Result.{Result}
use Rattle.std.specs.Io.KnownBytes.{append_known}
use Rattle.av_base.specs.Connections.{Agrees, Attempt, Link}
use Rattle.av_base.specs.Files.{Files}
use Rattle.av_base.proofs.ToldLemmas.{append_known-nil}
use Rattle.connection_calls.specs.World.{World as Ends}
use Rattle.connection_calls.proofs.GoingLemmas.{ComesTo-earlier, ComesTo-now}
use Rattle.rtr_client.proofs.NamedLemmas.{holds_moved}
use Rattle.script_lines.specs.declared.commands.Command.{Command}
use Rattle.script_lines.specs.declared.fault.LineFault.{LineFault}
use Rattle.script_lines.specs.Grammar.{IsReading}
use Rattle.rtr_server.specs.Routers.{Begun, HasSentAll}
use Rattle.aspa_top.specs.Moving.{HaveMoved}
use Rattle.aspa_top.specs.declared.task.Task.{Task}
use Rattle.aspa_top.specs.declared.working.Working.{Working}
use Rattle.aspa_top.specs.Bounds.{most}
use Rattle.aspa_top.specs.Tasks.{Moves, State, feeds_of}
use Rattle.aspa_top.specs.Evaluation.{Begins, MovesSome, asked_of, counted}
use Rattle.aspa_top.specs.Task.{task_of}
use Rattle.aspa_top.specs.Outside.{Outside, all_of}
use Rattle.aspa_top.specs.Performing.{GoesPart}
use Rattle.aspa_top.specs.Program.{HasMoved}
use Rattle.aspa_top.specs.Standing.{IsReady, StandsFor}
use Rattle.aspa_top.specs.Working.{counted_in}
use Rattle.aspa_top.specs.World.{ComesTo, GoesOn, Links, Meets, Tells, World, ending, names_of}
use Rattle.aspa_top.proofs.StandsLemmas.{counted_stands}

-- the shelf names what it named before
pub Tells-names : (old new : Option Files) (world : World) → names_of new ≡ names_of old → Tells old world → Tells new world
Tells-names old None world same tells = let some : names_of old ≡ Some tells.told.named = ap names_of tells.is in absurd (let no : ⊥ = cc in no)
Tells-names old (Some told) world same tells =
    let some : names_of old ≡ Some tells.told.named = ap names_of tells.is in
    let named : told.named ≡ tells.told.named = cc in
    record { told = told; is = refl; named = named ∙ tells.named }

-- ---- what becomes of the links

-- what comes of it later comes of what it was before
pub earlier : {old new : Links} → GoesOn old new → (ends : Ends) → ComesTo new ends → ComesTo old ends
earlier on ends comes = ComesTo-earlier on.attempts on.wire ends comes

-- as many attempts were made as the state says, and such bytes sent
pub stands_moved : (now : Outside) (working : Working) (state : State) → Agrees now.links.wire now.standings → IsReady now working
    → StandsFor now.files now.links working state → HaveMoved now.links.attempts now.links.wire state
stands_moved now working state agrees ready stands = record {
  feeds = holds_moved now.links.wire now.standings agrees (working.lines * most) now.links.attempts working.feeds (feeds_of state) ready.feeds (record { made = stands.made; each = stands.feeds });
  router = subst (λ (b : Begun). HasSentAll now.links.wire b) (sym stands.begun) tt;
}

-- where the run ends, its world's ends are what the links tell
pub comes_here : (files : Option Files) (before after : Links) (world : World) → Meets files before after world → ComesTo after world.ends
comes_here files before after world meets =
    subst (λ (attempts : Option (List Attempt)). ComesTo (record { attempts = attempts; wire = after.wire }) world.ends) (sym meets.attempts)
    (subst (λ (wire : Option (List Link)). ComesTo (record { attempts = world.ends.attempts; wire = wire }) world.ends) (sym meets.wire) (ComesTo-now world.ends.attempts world.ends.links))

pub moved_here : (files : Option Files) (before after : Links) (world : World) (state : State) → Meets files before after world → HaveMoved after.attempts after.wire state → HasMoved world state
moved_here files before after world state meets moved =
    subst (λ (attempts : Option (List Attempt)). HaveMoved attempts (Some world.ends.links) state) meets.attempts
    (subst (λ (wire : Option (List Link)). HaveMoved after.attempts wire state) meets.wire moved)

-- ---- one line

-- how far a line went that was read
pub record BeginsBy (world : World) (state : State) (line : List ℕ) (old new : Outside) : Type 0 where
  pub part : List ℕ
  pub moved : State
  pub begins : (ends : Ends) → ComesTo new.links ends → Begins (ending world ends) state line part (new.ticks - old.ticks) moved
  pub sent : HaveMoved new.links.attempts new.links.wire moved
  pub added : all_of new ≡ append_known (all_of old) part

-- only a command has a task that moves
moves_some : (world : World) (state : State) (line part : List ℕ) (reading : Result Command LineFault) (task : Task) (ticks : ℕ) (after : State) → IsReading line reading → asked_of reading ≡ Ok task
    → Moves world (counted state) task part after → ticks ≤ after.judgements - state.judgements → MovesSome world state line part ticks after
moves_some world state line part (Ok command) task ticks after reads is moves judged =
    let same : task_of command ≡ task = cc in
    record { command = command; reads = reads; moves = subst (λ (t : Task). Moves world (counted state) t part after) (sym same) moves; judged = judged }
moves_some world state line part (Err fault) task ticks after reads is moves judged = let none : ⊥ = cc in absurd none

pub begins_by : (world : World) (working : Working) (state : State) (line : List ℕ) (reading : Result Command LineFault) (old new : Outside) → IsReading line reading
    → Tells old.files world → StandsFor old.files old.links working state → HaveMoved old.links.attempts old.links.wire state
    → GoesPart (counted_in working) (asked_of reading) old new → BeginsBy world state line old new
begins_by world working state line reading old new reads tells stands moved part = elim part [
  | inl nothing ↦ record {
    part = [];
    moved = state;
    begins = λ ends comes. inl (refl, omega (arith, nothing.2), refl);
    sent = subst (λ (links : Links). HaveMoved links.attempts links.wire state) (sym nothing.0) moved;
    added = nothing.1 ∙ sym (append_known-nil (all_of old));
  }
  | inr more ↦ elim more [
    | inl writes ↦
        let went = writes.1 world tells (counted state) (counted_stands old.files old.links working state stands) in
        record {
          part = went.part;
          moved = state;
          begins = λ ends comes. inr (inl (
            record {
              own = went.part ++ went.rest;
              next = went.after;
              performs = record { reading = reading; reads = reads; does = went.does ends };
              rest = went.rest;
              whole = refl;
              judged = went.ticked;
              came_to = went.came_to ends;
            },
            refl,
          ));
          sent = subst (λ (links : Links). HaveMoved links.attempts links.wire state) (sym writes.0) moved;
          added = went.added;
        }
    | inr moves ↦
        let went = moves.2 world (counted state) (counted_stands old.files old.links working state stands) in
        record {
          part = went.part;
          moved = went.after;
          begins = λ ends comes. inr (inr (moves_some (ending world ends) state line went.part reading moves.0 (new.ticks - old.ticks) went.after reads moves.1 (went.moves ends comes) went.ticked));
          sent = went.sent;
          added = went.added;
        }
  ]
]
