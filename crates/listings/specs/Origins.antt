-- The text that lists the state of each route.
use Rattle.std.specs.Prelude.{ℕ, List}
use Rattle.path_model.specs.declared.key.Key.{Key}
use Rattle.origin_model.specs.declared.origin_state.OriginState.{OriginState}
use Rattle.report_text.specs.Origins.{origin_text}

-- the line of a row
abbrev pub origin_row : Key × OriginState → List ℕ
origin_row row = origin_text row.0 row.1
