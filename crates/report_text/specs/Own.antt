-- The line that says how our own routes stand.
use Rattle.std.specs.Prelude.{ℕ, List, [], ◌∷◌, ◌++◌, codes}
use Rattle.path_model.specs.declared.verdict.Verdict.{Verdict}
use Rattle.av_text.specs.VerdictText.{verdict_text}

-- the verdict of the path of what we originate, without the line feed
abbrev pub own_line : Verdict → List ℕ
own_line verdict = codes "own " ++ verdict_text verdict

-- and with it
abbrev pub own_text : Verdict → List ℕ
own_text verdict = own_line verdict ++ 10 ∷ []
