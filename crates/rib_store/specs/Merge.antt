-- Notes and routes in one key order.
use Rattle.std.specs.Prelude.{ℕ, Bool, true, false, List, [], ◌∷◌, map}
use Rattle.std.specs.declared.option.Option.{Option}
use Rattle.std.specs.declared.option.Option.TheVariants.{Some, None}
use Rattle.std.specs.FinMap.Entries.{by_order}
use Rattle.std.specs.Option.{option_map}
use Rattle.path_model.specs.declared.key.Key.{Key}
use Rattle.path_model.specs.declared.verdict.Verdict.{Verdict}
use Rattle.path_model.specs.Key.{key_cmp}
use Rattle.shared_cases.specs.Cases.{Slots, at, marked_or}
use Rattle.rib_store.specs.declared.merged.Row.{Row}
use Rattle.rib_store.specs.declared.merged.Merged.{Merged}
use Rattle.rib_store.specs.Cased.{Noted, Numbered, noted_or}

-- the one taken out already, and the others; where none could be taken there is none
abbrev pub waiting : {A : Type 0} → Option A → List A → List A
waiting None es = []
waiting (Some e) es = e ∷ es

abbrev pub noted_row : Key × Option Verdict → Key × Row
noted_row e = (e.0, record { noted = Some e.1; case = None })

abbrev pub route_row : Key × ℕ → Key × Row
route_row f = (f.0, record { noted = None; case = Some f.1 })

abbrev pub both_row : Key × Option Verdict → Key × ℕ → Key × Row
both_row e f = (e.0, record { noted = Some e.1; case = Some f.1 })

abbrev pub merge_one : Key × Option Verdict → (Numbered → List (Key × Row)) → Numbered → List (Key × Row)
merge_one e rest [] = noted_row e ∷ rest []
merge_one e rest (f ∷ fs) =
    by_order (key_cmp e.0 f.0) (noted_row e ∷ rest (f ∷ fs)) (both_row e f ∷ rest fs) (route_row f ∷ merge_one e rest fs)

-- the keys of both in order, each with what either has
abbrev pub merge : Noted → Numbered → List (Key × Row)
merge [] fs = map route_row fs
merge (e ∷ es) fs = merge_one e (merge es) fs

abbrev pub merged_left : Merged → List (Key × Row)
merged_left merged = merge (waiting merged.note merged.notes) (waiting merged.route merged.routes)

-- the marked verdict of a row: its note, or else its case's; none before the first mark
abbrev pub marked_of : Bool → Slots → Row → Option Verdict
marked_of false cases row = None
marked_of true cases row = noted_or row.noted (option_map (λ n. marked_or (at cases n)) row.case)
