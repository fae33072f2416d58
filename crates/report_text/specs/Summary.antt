-- The line that sums up a run.
use Rattle.std.specs.Prelude.{ℕ, List, [], ◌∷◌, ◌++◌, codes, decimal}
use Rattle.report_text.specs.declared.summary.Summary.{Summary}

-- how many routes there are of each verdict
abbrev pub verdicts_part : Summary → List ℕ
verdicts_part summary =
    codes " valid " ++ decimal summary.valid ++ codes " unknown " ++ decimal summary.unknown
    ++ codes " invalid " ++ decimal summary.invalid

-- how many customers attest, and how much was passed over or refused
abbrev pub sources_part : Summary → List ℕ
sources_part summary =
    codes " customers " ++ decimal summary.customers ++ codes " passed " ++ decimal summary.passed
    ++ codes " refused " ++ decimal summary.refused

-- each number behind its word, with one space between two, without the line feed
abbrev pub summary_line : Summary → List ℕ
summary_line summary =
    codes "summary routes " ++ decimal summary.routes ++ verdicts_part summary ++ sources_part summary

-- and with it
abbrev pub summary_text : Summary → List ℕ
summary_text summary = summary_line summary ++ 10 ∷ []
