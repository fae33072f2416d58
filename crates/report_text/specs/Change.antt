-- The line that reports a route whose verdict changed, and the one that says how many there are.
use Rattle.std.specs.Prelude.{ℕ, List, [], ◌∷◌, ◌++◌, codes, decimal}
use Rattle.std.specs.declared.option.Option.{Option}
use Rattle.std.specs.declared.option.Option.TheVariants.{Some, None}
use Rattle.path_model.specs.declared.key.Key.{Key}
use Rattle.path_model.specs.declared.verdict.Verdict.{Verdict}
use Rattle.av_text.specs.VerdictText.{verdict_text}
use Rattle.report_text.specs.Keys.{key_text}

-- the word for a route's verdict, or for that there is no route
abbrev pub mark_text : Option Verdict → List ℕ
mark_text None = codes "none"
mark_text (Some verdict) = verdict_text verdict

-- the words before and after, with a space between them
abbrev pub marks_text : Option Verdict → Option Verdict → List ℕ
marks_text before after = mark_text before ++ 32 ∷ mark_text after

-- the route's key, and its verdict before and after, with one space between two, without the line feed
abbrev pub change_line : Key → Option Verdict → Option Verdict → List ℕ
change_line key before after = key_text key ++ 32 ∷ marks_text before after

-- and with it
abbrev pub change_text : Key → Option Verdict → Option Verdict → List ℕ
change_text key before after = change_line key before after ++ 10 ∷ []

-- how many routes changed, without the line feed
abbrev pub changed_line : ℕ → List ℕ
changed_line changes = codes "changed " ++ decimal changes

-- and with it
abbrev pub changed_text : ℕ → List ℕ
changed_text changes = changed_line changes ++ 10 ∷ []
