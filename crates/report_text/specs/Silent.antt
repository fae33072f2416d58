-- The line that reports an AS that attests nothing and is asked about.
use Rattle.std.specs.Prelude.{ℕ, List, [], ◌∷◌, ◌++◌, decimal}
use Rattle.report_text.specs.declared.silent.SilentAs.{SilentAs}
use Rattle.report_text.specs.Suspects.{having_text}

-- the AS, and how many routes and how many paths ask about it, without the line feed
abbrev pub silent_line : SilentAs → List ℕ
silent_line silent = decimal silent.asn ++ having_text silent.routes silent.paths

-- and with it
abbrev pub silent_text : SilentAs → List ℕ
silent_text silent = silent_line silent ++ 10 ∷ []
