use Rattle.std.proofs.Common.{◌≡◌, drop}
use Rattle.std.specs.BTreeMap.{is_at}
use Rattle.std.specs.Map.{lookup}
use Rattle.path_model.specs.declared.key.Key.{Key}
use Rattle.path_model.specs.Key.{key_cmp}
use Rattle.rib_store.specs.Marks.{note_by, or_else}
use Rattle.rib_store.proofs.marks.note_each.Given as goal

-- the keys of the cases to come are noted last
abbrev pub invariant-loop-number : goal.invariant-loop-number
invariant-loop-number l = (q : Key) → or_else (lookup (is_at (key_cmp q)) l.notes) (note_by l.keys l.cases (drop l.number-index l.number-items) q)
    ≡ or_else (lookup (is_at (key_cmp q)) l.fn.notes) (note_by l.keys l.cases l.numbers q)
