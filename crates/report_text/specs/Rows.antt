-- The line that reports a route's verdict.
use Rattle.std.specs.Prelude.{ℕ, List, [], ◌∷◌, ◌++◌}
use Rattle.path_model.specs.declared.key.Key.{Key}
use Rattle.path_model.specs.declared.verdict.Verdict.{Verdict}
use Rattle.av_text.specs.VerdictText.{verdict_text}
use Rattle.report_text.specs.Keys.{key_text}

-- the route's key, and the verdict of its path, with one space between them, without the line feed
abbrev pub row_line : Key → Verdict → List ℕ
row_line key verdict = key_text key ++ 32 ∷ verdict_text verdict

-- and with it
abbrev pub row_text : Key → Verdict → List ℕ
row_text key verdict = row_line key verdict ++ 10 ∷ []
