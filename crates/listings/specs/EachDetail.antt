-- What the step of a route adds; private contracts alone cite it.
use Rattle.std.specs.Prelude.{ℕ, if◌then◌else◌, List, []}
use Rattle.conditions.specs.declared.asked.Conditions.{Conditions}
use Rattle.path_model.specs.declared.key.Key.{Key}
use Rattle.rib_store.specs.Shown.{Standing}
use Rattle.listings.specs.Details.{detail_row, is_asked}

-- its line, or nothing
abbrev pub piece_of : Conditions → Key × Standing → List ℕ
piece_of conditions row = if is_asked conditions row then detail_row row else []
