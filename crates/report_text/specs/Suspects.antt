-- The line that reports a valley of paths: ASes between which some routes were handed on that shouldn't have been.
use Rattle.std.specs.Prelude.{ℕ, List, [], ◌∷◌, ◌++◌, codes, decimal}
use Rattle.std.specs.declared.option.Option.{Option}
use Rattle.std.specs.declared.option.Option.TheVariants.{Some, None}
use Rattle.report_text.specs.declared.suspect.Suspect.{Suspect}

-- the AS that the last one of the valley handed the routes to, or that it was us
abbrev pub to_text : Option ℕ → List ℕ
to_text None = codes "here"
to_text (Some asn) = decimal asn

-- the AS before the valley, and the first and the last one in it, with one space between two
abbrev pub inside_text : ℕ → ℕ → ℕ → List ℕ
inside_text from first last = decimal from ++ 32 ∷ decimal first ++ 32 ∷ decimal last

-- and the one after it
abbrev pub valley_text : ℕ → ℕ → ℕ → Option ℕ → List ℕ
valley_text from first last to = inside_text from first last ++ 32 ∷ to_text to

-- how many routes and how many paths have it
abbrev pub having_text : ℕ → ℕ → List ℕ
having_text routes paths = codes " routes " ++ decimal routes ++ codes " paths " ++ decimal paths

-- both, without the line feed
abbrev pub suspect_line : Suspect → List ℕ
suspect_line suspect =
    valley_text suspect.from suspect.first suspect.last suspect.to ++ having_text suspect.routes suspect.paths

-- and with it
abbrev pub suspect_text : Suspect → List ℕ
suspect_text suspect = suspect_line suspect ++ 10 ∷ []
