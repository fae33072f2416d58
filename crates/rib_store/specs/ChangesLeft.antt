-- The changes, made of what is known of the keys, and what an iterator over them has left.
use Rattle.std.specs.Prelude.{ℕ, nat_eq, Bool, List, cond}
use Rattle.std.specs.declared.option.Option.{Option}
use Rattle.std.specs.declared.option.Option.TheVariants.{Some, None}
use Rattle.std.specs.BTreeMap.{is_at}
use Rattle.std.specs.List.{filter_map}
use Rattle.std.specs.Map.{lookup}
use Rattle.std.specs.Option.{option_map, option_eq}
use Rattle.path_model.specs.declared.key.Key.{Key}
use Rattle.path_model.specs.declared.verdict.Verdict.{Verdict}
use Rattle.path_model.specs.declared.verdict.Verdict.TheVariants.{Valid, Unknown, Invalid}
use Rattle.attestations.specs.CurrentTable.{Parts}
use Rattle.path_model.specs.Key.{key_cmp}
use Rattle.path_model.specs.Roles.{Relations}
use Rattle.path_model.specs.Trail.{Path}
use Rattle.shared_cases.specs.Cases.{Slots, at, verdict_or}
use Rattle.rib_store.specs.declared.journal.ChangedKey.{ChangedKey}
use Rattle.rib_store.specs.declared.journal.Journal.{Journal}
use Rattle.rib_store.specs.declared.journal.Left.{Left}
use Rattle.rib_store.specs.declared.journal.Left.TheVariants.{OfAll, OfNotes}
use Rattle.rib_store.specs.Cased.{Numbered}
use Rattle.rib_store.specs.Held.{Held}
use Rattle.rib_store.specs.declared.merged.Row.{Row}
use Rattle.rib_store.specs.Merge.{marked_of, merged_left}
use Rattle.rib_store.specs.Rows.{current_verdict}

-- the current verdict of a key with or without a path
abbrev pub present_verdict : Parts → Relations → Key → Option Path → Option Verdict
present_verdict parts relations key path = option_map (current_verdict parts relations key) path

abbrev pub verdict_number : Verdict → ℕ
verdict_number Valid = 0
verdict_number Unknown = 1
verdict_number Invalid = 2

abbrev pub are_same : Option Verdict → Option Verdict → Bool
are_same one other = option_eq (λ v w. nat_eq (verdict_number v) (verdict_number w)) one other

-- a key with both verdicts, where they differ
abbrev pub change_between : Key → Option Verdict → Option Verdict → Option ChangedKey
change_between key before after = cond (are_same before after) None (Some (record { key = key; before = before; after = after }))

abbrev pub change_at : Parts → Relations → Key × Held → Option ChangedKey
change_at parts relations e = change_between e.0 e.1.marked (present_verdict parts relations e.0 e.1.trail)

-- the changes among these entries
abbrev pub changes_in : Parts → Relations → List (Key × Held) → List ChangedKey
changes_in parts relations es = filter_map (change_at parts relations) es

-- the change of a row of notes and routes
abbrev pub row_change : Bool → Slots → Key × Row → Option ChangedKey
row_change is_marked cases e =
    change_between e.0 (marked_of is_marked cases e.1) (option_map (λ n. verdict_or (at cases n)) e.1.case)

-- the change of a noted key, by the case of its route if it has one
abbrev pub changed : Numbered → Slots → Key × Option Verdict → Option ChangedKey
changed routes cases e =
    change_between e.0 e.1 (option_map (λ n. verdict_or (at cases n)) (lookup (is_at (key_cmp e.0)) routes))

-- the changes among the rows or the notes that are left
abbrev pub changes_of : Left → Bool → Numbered → Slots → List ChangedKey
changes_of (OfAll merged) is_marked routes cases = filter_map (row_change is_marked cases) (merged_left merged)
changes_of (OfNotes es) is_marked routes cases = filter_map (changed routes cases) es

abbrev pub changes_left : Journal → List ChangedKey
changes_left journal = changes_of journal.left journal.is_marked journal.routes.now journal.cases.now
