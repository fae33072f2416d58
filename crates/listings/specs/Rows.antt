-- The text of a report.
use Rattle.std.specs.Prelude.{ℕ, List}
use Rattle.path_model.specs.declared.key.Key.{Key}
use Rattle.path_model.specs.declared.verdict.Verdict.{Verdict}
use Rattle.report_text.specs.Rows.{row_text}

-- the line of a row
abbrev pub row_of : Key × Verdict → List ℕ
row_of row = row_text row.0 row.1
