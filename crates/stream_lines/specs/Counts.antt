-- How many refusals a text reports.
use Rattle.std.specs.Prelude.{ℕ, nat_eq, List, codes}
use Rattle.std.specs.List.{slice_split, count_by, starts_with}
use Rattle.av_text.specs.Lines.{is_lf}

-- how many lines of a text begin with `! `
abbrev pub refusals_in : List ℕ → ℕ
refusals_in text = count_by (λ line. starts_with nat_eq line (codes "! ")) (slice_split is_lf text)
