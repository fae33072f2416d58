-- The text that lists who is suspected of leaks.
use Rattle.std.specs.Prelude.{ℕ, List}
use Rattle.report_text.specs.declared.suspect.Suspect.{Suspect}
use Rattle.report_text.specs.Suspects.{suspect_text}
use Rattle.valleys.specs.declared.valley.Valley.{Valley}
use Rattle.listings.specs.declared.tally.Tally.{Tally}

-- a valley, with how many routes and paths have it
abbrev pub suspect_of : Valley × Tally → Suspect
suspect_of row = record {
  from = row.0.from;
  first = row.0.first;
  last = row.0.last;
  to = row.0.to;
  routes = row.1.routes;
  paths = row.1.paths;
}

-- and its line
abbrev pub suspect_row : Valley × Tally → List ℕ
suspect_row row = suspect_text (suspect_of row)
