-- What keeps the notes and the keys of the cases with the routes and their cases. Private contracts alone cite it.
use Rattle.std.specs.Prelude.{◌≡◌, ◌&&◌, ◌||◌, ℕ, nat_eq, Bool, true, false, List, [], ◌∷◌, cond, ⊤, ◌⊎◌}
use Rattle.std.specs.declared.option.Option.{Option}
use Rattle.std.specs.declared.option.Option.TheVariants.{Some, None}
use Rattle.std.specs.BTreeMap.{is_at}
use Rattle.std.specs.Map.{lookup}
use Rattle.std.specs.Option.{is_some}
use Rattle.path_model.specs.declared.key.Key.{Key}
use Rattle.path_model.specs.declared.verdict.Verdict.{Verdict}
use Rattle.path_model.specs.Key.{key_cmp}
use Rattle.route_map.specs.Keys.{Entries, has, is_value, IsReverse, Follows}
use Rattle.shared_cases.specs.declared.case.StoredCase.{StoredCase}
use Rattle.shared_cases.specs.Cases.{Slots, at, marked_or, has_differed}
use Rattle.shared_cases.specs.Grounds.{Grounds}
use Rattle.shared_cases.specs.Numbers.{has as numbers_have}
use Rattle.rib_store.specs.declared.marks.Marks.{Marks}
use Rattle.rib_store.specs.Cased.{Noted, Numbered, IsOfAs, AreStored}

-- the key has a note, or its case's number is pending
abbrev pub is_noted : Noted → List ℕ → Key → ℕ → Bool
is_noted notes pending key n = is_some (lookup (is_at (key_cmp key)) notes) || numbers_have pending n

-- once verdicts were marked, so it is with each key whose case differed since
abbrev pub AreNoted : Bool → Numbered → Slots → Noted → List ℕ → Type 0
AreNoted is_marked routes cases notes pending = is_marked ≡ true → (key : Key) (n : ℕ) → lookup (is_at (key_cmp key)) routes ≡ Some n
    → has_differed (at cases n) ≡ true → is_noted notes pending key n ≡ true

-- where the keys of the cases are held, they are those of the routes
abbrev pub AreKeysOfRoutes : Option Entries → Numbered → Type 0
AreKeysOfRoutes None routes = ⊤
AreKeysOfRoutes (Some index) routes = IsReverse index routes

-- nothing was marked, and the keys of the cases aren't held
pub record AreIdle (marks : Marks) : Type 0 where
  pub unmarked : marks.is_marked ≡ false
  pub no_keys : marks.keys ≡ None

pub record AreMarks (routes : Numbered) (cases : Slots) (marks : Marks) : Type 0 where
  pub noted : AreNoted marks.is_marked routes cases marks.notes marks.pending
  pub keys : AreKeysOfRoutes marks.keys routes

-- the routes, their cases and the marks belong together
pub record AreSound (g : Grounds) (routes : Numbered) (cases : Slots) (kept : Marks) : Type 0 where
  pub stored : AreStored g routes cases
  pub marks : AreMarks routes cases kept

-- ---- a key's case becomes another one

-- the key has this case, where the keys are held
abbrev pub IsCaseAt : Option Entries → Key → Option ℕ → Type 0
IsCaseAt None key case = ⊤
IsCaseAt (Some index) key case = (n : ℕ) → has index n key ≡ is_value case n

-- the key has another case from now on, where the keys are held
abbrev pub FollowsIn : Option Entries → Key → Option ℕ → Option Entries → Type 0
FollowsIn None key case new = new ≡ None
FollowsIn (Some old) key case None = ⊥
FollowsIn (Some old) key case (Some new) = Follows old key case new

-- ---- cases differ

-- these cases are pending too, once verdicts were marked, and before none more is
abbrev pub Defers : Bool → List ℕ → List ℕ → List ℕ → Type 0
Defers false old numbers new = new ≡ old
Defers true old numbers new = (n : ℕ) → numbers_have new n ≡ (numbers_have old n || numbers_have numbers n)

-- each case is of the AS of its keys' peers
abbrev pub AreOfPeers : Numbered → Slots → Type 0
AreOfPeers routes cases =
    (key : Key) (n : ℕ) → lookup (is_at (key_cmp key)) routes ≡ Some n → IsOfAs (at cases n) key.peer.asn

-- the key is one of a case that has this number
abbrev pub is_key_of : Option StoredCase → Entries → ℕ → Key → Bool
is_key_of None index n key = false
is_key_of (Some c) index n key = nat_eq c.asn key.peer.asn && has index n key

-- a note, or else another one
abbrev pub or_else : Option (Option Verdict) → Option (Option Verdict) → Option (Option Verdict)
or_else None other = other
or_else (Some noted) other = Some noted

-- the note of a key that is one of these cases: what is marked of the case
abbrev pub note_by : Entries → Slots → List ℕ → Key → Option (Option Verdict)
note_by index cases [] key = None
note_by index cases (n ∷ ns) key =
    cond (is_key_of (at cases n) index n key) (Some (Some (marked_or (at cases n)))) (note_by index cases ns key)

-- the keys of these cases are noted, where they aren't yet
abbrev pub NotesCases : Entries → Slots → List ℕ → Noted → Noted → Type 0
NotesCases index cases numbers old new =
    (q : Key) → lookup (is_at (key_cmp q)) new ≡ or_else (lookup (is_at (key_cmp q)) old) (note_by index cases numbers q)

-- a new note tells what is marked of the key's case
pub record TellsMark (routes : Numbered) (cases : Slots) (q : Key) (old new : Option (Option Verdict)) : Type 0 where
  pub was : old ≡ None
  pub number : ℕ
  pub here : lookup (is_at (key_cmp q)) routes ≡ Some number
  pub told : new ≡ Some (Some (marked_or (at cases number)))

abbrev pub TellsMarks : Numbered → Slots → Noted → Noted → Type 0
TellsMarks routes cases old new = (q : Key) → (lookup (is_at (key_cmp q)) new ≡ lookup (is_at (key_cmp q)) old)
    ⊎ TellsMark routes cases q (lookup (is_at (key_cmp q)) old) (lookup (is_at (key_cmp q)) new)

-- each key of these cases has a note, as far as the cases differed
abbrev pub AreCovered : Numbered → Slots → List ℕ → Noted → Type 0
AreCovered routes cases numbers notes = (key : Key) (n : ℕ) → lookup (is_at (key_cmp key)) routes ≡ Some n → numbers_have numbers n ≡ true
    → has_differed (at cases n) ≡ true → is_some (lookup (is_at (key_cmp key)) notes) ≡ true
