-- What the iterators over rows, patches and roles have left.
use Rattle.std.specs.Prelude.{ℕ, List}
use Rattle.std.specs.declared.option.Option.{Option}
use Rattle.path_model.specs.declared.role.Role.{Role}
use Rattle.path_model.specs.declared.roles.OwnRoles.{OwnRoles}
use Rattle.path_model.specs.declared.rows.RowEntries.{RowEntries}
use Rattle.path_model.specs.declared.patch.PatchEntries.{PatchEntries}

abbrev pub rows_left : RowEntries → List (ℕ × List ℕ)
rows_left r = r.inner

abbrev pub patches_left : PatchEntries → List (ℕ × Option (List ℕ))
patches_left r = r.inner

abbrev pub own_left : OwnRoles → List (ℕ × Role)
own_left r = r.inner
