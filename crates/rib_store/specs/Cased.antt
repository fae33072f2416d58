-- Routes through their cases: each key has the number of a case, and the case has the path, the judgement and the mark.
use Rattle.std.specs.Prelude.{◌≡◌, ℕ, nat_eq, ◌<◌, Bool, true, false, List, [], ◌∷◌, map, if◌then◌else◌, ⊤}
use Rattle.std.specs.declared.option.Option.{Option}
use Rattle.std.specs.declared.option.Option.TheVariants.{Some, None}
use Rattle.std.specs.BTreeMap.{is_at}
use Rattle.std.specs.FinMap as fin
use Rattle.std.specs.List.{sum_by}
use Rattle.std.specs.Map.{lookup, values_of}
use Rattle.path_model.specs.declared.key.Key.{Key}
use Rattle.path_model.specs.declared.verdict.Verdict.{Verdict}
use Rattle.path_model.specs.Key.{key_cmp}
use Rattle.path_model.specs.Routes.{Routes}
use Rattle.path_model.specs.Trail.{Path}
use Rattle.shared_cases.specs.declared.case.StoredCase.{StoredCase}
use Rattle.shared_cases.specs.Cases.{Slots, at, marked_or}
use Rattle.shared_cases.specs.Grounds.{Grounds, IsJudged}
use Rattle.rib_store.specs.State.{Marked}

-- the number of each key's case, in key order
abbrev pub Numbered : Type 0
Numbered = List (Key × ℕ)

abbrev pub path_or : Option StoredCase → Path
path_or None = record { set = false; chain = [] }
path_or (Some c) = c.trail

-- what the cases of the keys have of this part
abbrev pub through : {A : Type 0} → (Option StoredCase → A) → Slots → Numbered → List (Key × A)
through {A} part cases routes = map {B = Key × A} (λ e. (e.0, part (at cases e.1))) routes

abbrev pub routes_by : Slots → Numbered → Routes
routes_by cases routes = fin.from_entries (through path_or cases routes)

-- what was marked of some keys: none, where the key had no route then
abbrev pub Noted : Type 0
Noted = List (Key × Option Verdict)

-- a note, or else this
abbrev pub noted_or : Option (Option Verdict) → Option Verdict → Option Verdict
noted_or None mark = mark
noted_or (Some noted) mark = noted

-- a key's mark is this one, or there is none
abbrev pub overridden_at : Key → Option Verdict → Marked → Marked
overridden_at key None marked = fin.remove marked key
overridden_at key (Some verdict) marked = fin.insert marked key verdict

abbrev pub overridden : Marked → Noted → Marked
overridden marked [] = marked
overridden marked (note ∷ notes) = overridden_at note.0 note.1 (overridden marked notes)

-- The marked verdicts are those of the cases, overridden by the notes of the keys whose route changed since the mark or whose case got
-- another verdict; before the first mark there are none.
abbrev pub marked_by : Bool → Slots → Numbered → Noted → Marked
marked_by false cases routes notes = fin.empty
marked_by true cases routes notes = overridden (fin.from_entries (through marked_or cases routes)) notes

-- how many keys have this case
abbrev pub one : ℕ → ℕ → ℕ
one n m = if nat_eq m n then 1 else 0

abbrev pub users_of : Numbered → ℕ → ℕ
users_of routes n = sum_by (one n) (values_of routes)

-- there is a case exactly where some keys have it, and it counts them
abbrev pub IsCounted : Option StoredCase → ℕ → Type 0
IsCounted None users = users ≡ 0
IsCounted (Some c) users = (c.users ≡ users) × (0 < users)

abbrev pub IsOfAs : Option StoredCase → ℕ → Type 0
IsOfAs None asn = ⊤
IsOfAs (Some c) asn = c.asn ≡ asn

-- The cases are those of the routes: each counts its keys, is of their peers' AS, and has its right judgement.
pub record AreStored (g : Grounds) (routes : Numbered) (cases : Slots) : Type 0 where
  pub counted : (n : ℕ) → IsCounted (at cases n) (users_of routes n)
  pub of_peers : (key : Key) (n : ℕ) → lookup (is_at (key_cmp key)) routes ≡ Some n → IsOfAs (at cases n) key.peer.asn
  pub judged : (n : ℕ) → IsJudged g (at cases n)
