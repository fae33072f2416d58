-- The lines of reports and of changes say of no feed that its place wasn't to be had.
use Rattle.std.proofs.Common.{◌≡◌, ℕ, List, [], ◌∷◌, ◌++◌, map, flat_map, refl, ap, subst, ◌∙◌}
use Rattle.std.specs.Io.KnownBytes.{append_known}
use Rattle.std.specs.List.{All}
use Rattle.std.specs.declared.option.Option.{Option}
use Rattle.std.proofs.lemmas.List.Elements.{All-map}
use Rattle.av_base.specs.Told.{AppendsFront}
use Rattle.path_model.specs.declared.key.Key.{Key}
use Rattle.path_model.specs.declared.verdict.Verdict.{Verdict}
use Rattle.report_text.specs.Change.{change_line}
use Rattle.report_text.specs.Laws.{IsAnswerLine}
use Rattle.report_text.specs.Reported.{lines_text, AddsFront, AddsQuiet}
use Rattle.report_text.specs.Rows.{row_line, row_text}
use Rattle.report_text.proofs.AnswerLemmas.{row_is_one_line, change_is_one_line}
use Rattle.report_text.proofs.ReportedLemmas.{adds_answers, adds_answers_front}
use Rattle.rib_store.specs.declared.journal.ChangedKey.{ChangedKey}
use Rattle.listings.specs.Changes.{change_row}
use Rattle.listings.specs.Rows.{row_of}

-- ---- rows

abbrev pub line_of : Key × Verdict → List ℕ
line_of row = row_line row.0 row.1

pub rows_are_lines : (rows : List (Key × Verdict)) → flat_map row_of rows ≡ lines_text (map line_of rows)
rows_are_lines [] = refl
rows_are_lines (row ∷ rows) = ap (λ (t : List ℕ). row_text row.0 row.1 ++ t) (rows_are_lines rows)

pub rows_answer : (rows : List (Key × Verdict)) → All IsAnswerLine (map line_of rows)
rows_answer rows = All-map IsAnswerLine line_of rows (λ k row within. row_is_one_line _ _)

-- ---- changes

abbrev pub line_of_change : ChangedKey → List ℕ
line_of_change change = change_line change.key change.before change.after

pub changes_are_lines : (changes : List ChangedKey) → flat_map change_row changes ≡ lines_text (map line_of_change changes)
changes_are_lines [] = refl
changes_are_lines (change ∷ changes) = ap (λ (t : List ℕ). (line_of_change change ++ 10 ∷ []) ++ t) (changes_are_lines changes)

pub changes_answer : (changes : List ChangedKey) → All IsAnswerLine (map line_of_change changes)
changes_answer changes = All-map IsAnswerLine line_of_change changes (λ k change within. change_is_one_line _ _ _)

pub changes_reported : (old new : Option (List ℕ)) (changes : List ChangedKey) → new ≡ append_known old (flat_map change_row changes) → AddsQuiet old new
changes_reported old new changes added = adds_answers old new (map line_of_change changes) (changes_answer changes) (added ∙ ap (append_known old) (changes_are_lines changes))

pub changes_reported_front : (old new : Option (List ℕ)) (changes : List ChangedKey) → AppendsFront old new (flat_map change_row changes) → (faults : ℕ) → AddsFront old new faults faults
changes_reported_front old new changes front faults =
    adds_answers_front old new (map line_of_change changes) faults (changes_answer changes) (subst (AppendsFront old new) (changes_are_lines changes) front)
