-- The text of what changed.
use Rattle.std.specs.Prelude.{ℕ, List}
use Rattle.report_text.specs.Change.{change_text}
use Rattle.rib_store.specs.declared.journal.ChangedKey.{ChangedKey}

-- the line of a change
abbrev pub change_row : ChangedKey → List ℕ
change_row change = change_text change.key change.before change.after
