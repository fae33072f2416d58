-- Laws of leaks and marks, each the contract of a public function of the module `laws`.
use Rattle.std.specs.Prelude.{◌≡◌, ◌≢◌, ℕ, List, ◌∷◌, ◌++◌, All, length, slice_get, unwrap_or}
use Rattle.std.specs.FinMap as map
use Rattle.std.specs.Option.{IsSome}
use Rattle.av_base.specs.One.{HasOne}
use Rattle.path_model.specs.declared.change.Change.{Change}
use Rattle.path_model.specs.declared.change.Change.TheVariants.{Remove, Announce, RemovePeer}
use Rattle.path_model.specs.declared.key.Key.{Key}
use Rattle.path_model.specs.declared.otc.Otc.{Otc}
use Rattle.path_model.specs.declared.otc.Otc.TheVariants.{Absent}
use Rattle.path_model.specs.declared.role.Role.{Role}
use Rattle.path_model.specs.Notes.{announced_of}
use Rattle.path_model.specs.Routes.{Routes, performed}
use Rattle.path_model.specs.Trail.{Path}
use Rattle.otc_check.specs.Leak.{IsLeak}
use Rattle.otc_check.specs.Marks.{Marked, mark_of, noted_by}

-- every case has exactly one leak
abbrev pub EachCaseHasOneLeak : Type 0
EachCaseHasOneLeak = (role : Role) (neighbour : ℕ) (otc : Otc) → HasOne (IsLeak role neighbour otc)

-- the change says nothing of the key's route
abbrev pub Leaves : Key → Change → Type 0
Leaves key (Remove other) = other ≢ key
Leaves key (Announce other path) = other ≢ key
Leaves key (RemovePeer peer) = peer ≢ key.peer

-- and none of these does
abbrev pub AllLeave : Key → List Change → Type 0
AllLeave key changes = All (Leaves key) changes

-- the note of the announcement with this index
abbrev pub note_at : List Otc → ℕ → Otc
note_at notes index = unwrap_or (slice_get notes index) Absent

-- after any changes a key has the note of its last announcement, if nothing took the route since
abbrev pub MarksAreOfLastAnnouncements : Type 0
MarksAreOfLastAnnouncements =
    (before after : List Change) (key : Key) (path : Path) (notes : List Otc) (marks : Marked) → AllLeave key after
    → mark_of (noted_by (before ++ Announce key path ∷ after) notes marks) key ≡ note_at notes (announced_of before)

-- and none, where it was withdrawn since,
abbrev pub MarksGoWithWithdrawals : Type 0
MarksGoWithWithdrawals =
    (before after : List Change) (key : Key) (notes : List Otc) (marks : Marked) → AllLeave key after
    → mark_of (noted_by (before ++ Remove key ∷ after) notes marks) key ≡ Absent

-- or its peer's session ended;
abbrev pub MarksGoWithPeers : Type 0
MarksGoWithPeers =
    (before after : List Change) (key : Key) (notes : List Otc) (marks : Marked) → AllLeave key after
    → mark_of (noted_by (before ++ RemovePeer key.peer ∷ after) notes marks) key ≡ Absent

-- and where nothing was said of the key, it has what it had.
abbrev pub OtherMarksStay : Type 0
OtherMarksStay =
    (changes : List Change) (key : Key) (notes : List Otc) (marks : Marked) → AllLeave key changes
    → mark_of (noted_by changes notes marks) key ≡ mark_of marks key

-- each key that has the attribute has a route
abbrev pub AreOfRoutes : Marked → Routes → Type 0
AreOfRoutes marks routes = (key : Key) → IsSome (map.get marks key) → IsSome (map.get routes key)

-- that stays so, whatever changes
abbrev pub MarksAreOfRoutes : Type 0
MarksAreOfRoutes =
    (changes : List Change) (notes : List Otc) (marks : Marked) (routes : Routes) → AreOfRoutes marks routes
    → AreOfRoutes (noted_by changes notes marks) (performed changes routes)

-- What changes with their notes make of marks, and then more changes with theirs, is what both together make: so what is so of one list of
-- changes is so of those of many messages and records.
abbrev pub MarksGoOn : Type 0
MarksGoOn =
    (changes more : List Change) (notes others : List Otc) (marks : Marked) → length notes ≡ announced_of changes
    → noted_by (changes ++ more) (notes ++ others) marks ≡ noted_by more others (noted_by changes notes marks)
