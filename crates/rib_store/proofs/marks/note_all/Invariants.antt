use Rattle.std.proofs.Common.{◌≡◌, drop}
use Rattle.std.specs.BTreeMap.{is_at}
use Rattle.std.specs.Map.{lookup}
use Rattle.path_model.specs.declared.key.Key.{Key}
use Rattle.path_model.specs.Key.{key_cmp}
use Rattle.route_map.specs.Keys.{has_key}
use Rattle.rib_store.specs.Steps.{or_noted}
use Rattle.rib_store.proofs.marks.note_all.Given as goal

-- the keys to come are noted last
abbrev pub invariant-loop-key : goal.invariant-loop-key
invariant-loop-key l = (q : Key) → or_noted (lookup (is_at (key_cmp q)) l.notes) (has_key (drop l.key-index l.keys) q) l.marked
    ≡ or_noted (lookup (is_at (key_cmp q)) l.fn.notes) (has_key l.keys q) l.marked
