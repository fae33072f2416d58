-- The laws of the definitions.
use Rattle.std.proofs.Common.{◌≡◌, ℕ, false, List, [], ◌++◌, Some, None, refl, sym, ap, subst, ◌∙◌}
use Rattle.std.specs.Io.KnownBytes.{append_known, prepend_known}
use Rattle.std.specs.declared.option.Option.{Option}
use Rattle.std.proofs.lemmas.List.{append_cancel_right}
use Rattle.av_text.specs.Lines.{lines_in}
use Rattle.av_base.proofs.ToldLemmas.{append_known-nil, AppendsFront-trans}
use Rattle.aspa_top.specs.Tasks.{State, start}
use Rattle.aspa_top.specs.Evaluation.{Evaluates}
use Rattle.aspa_top.specs.Program.{AreTold, StopsAtRead, WentThrough, WritesFront}
use Rattle.aspa_top.specs.Laws.{NeedNoAttempts, HasText}
use Rattle.aspa_top.specs.World.{World}
use Rattle.aspa_top.proofs.EvaluationLemmas.{Evaluates-unique, goes_on_behind, some_text}

-- no script has two texts
pub one_text : (world : World) → AreTold world → (lines : List (List ℕ)) (one other : List ℕ) (end last : State)
    → Evaluates world (start world) lines one end → Evaluates world (start world) lines other last → (one ≡ other) × (end ≡ last)
one_text world told lines one other end last a b = Evaluates-unique world told.0 told.1 (start world) lines one other end last a b

-- a script that connects no feed and serves no routers has one
pub a_text : (world : World) (lines : List (List ℕ)) → NeedNoAttempts lines → HasText world lines
a_text world lines none =
    let found = some_text world (start world) lines none (λ name. refl) in
    record { text = found.text; end = found.end; evaluates = found.evaluates }

-- what a run that went through some lines has written is a front of the text of all lines
pub runs_write_fronts : (world : World) → AreTold world → (lines : List (List ℕ)) (old new : Option (List ℕ)) (ticks_old ticks_new : ℕ)
    → WentThrough world lines old new ticks_old ticks_new → WritesFront world lines old new
runs_write_fronts world told lines old new ticks_old ticks_new went = λ text end evaluates.
    let behind = goes_on_behind world told.0 told.1 (start world) lines went.done went.left went.text went.part went.ticks went.state went.moved text end went.lines_are went.evaluates went.begins evaluates in
    AppendsFront-trans behind.0 (record { front = []; whole = behind.1; told = sym (append_known-nil old) }) went.written

-- the bytes that were read are those before what is left
taken_once : (one other : List ℕ) (left : Option (List ℕ)) (script : List ℕ) → Some script ≡ prepend_known one left → Some script ≡ prepend_known other left → one ≡ other
taken_once one other None script a b = absurd (let no : ⊥ = cc in no)
taken_once one other (Some rest) script a b = let same : one ++ rest ≡ other ++ rest = cc in append_cancel_right one other rest same

-- where the script failed, the text of the lines that had come was written
pub wrote_what_had_come : (limit : ℕ) (world : World) → AreTold world → (script taken : List ℕ) (left old new : Option (List ℕ)) (ticks_old ticks_new : ℕ)
    → StopsAtRead limit world script left old new ticks_old ticks_new → Some script ≡ prepend_known taken left → (text : List ℕ) (end : State)
    → Evaluates world (start world) (lines_in false taken) text end → new ≡ append_known old text
wrote_what_had_come limit world told script taken left old new ticks_old ticks_new stops is text end evaluates =
    let same : stops.taken ≡ taken = taken_once stops.taken taken left script stops.told is in
    let one = one_text world told (lines_in false taken) stops.ended.text text stops.ended.state end (subst (λ (bytes : List ℕ). Evaluates world (start world) (lines_in false bytes) stops.ended.text stops.ended.state) same stops.ended.evaluates) evaluates in
    stops.ended.written ∙ ap (append_known old) one.0
