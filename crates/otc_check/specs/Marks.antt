-- The attribute Only-to-Customer that routes have by their last announcement (RFC 9234, section 5), and what changes make of it.
use Rattle.std.specs.Prelude.{not, List, [], ◌∷◌, drop, slice_get, unwrap_or, if◌then◌else◌}
use Rattle.std.specs.FinMap as map
use Rattle.path_model.specs.declared.change.Change.{Change}
use Rattle.path_model.specs.declared.change.Change.TheVariants.{Remove, Announce, RemovePeer}
use Rattle.path_model.specs.declared.key.Key.{Key}
use Rattle.path_model.specs.declared.otc.Otc.{Otc}
use Rattle.path_model.specs.declared.otc.Otc.TheVariants.{Absent}
use Rattle.path_model.specs.declared.peer.Peer.{Peer}
use Rattle.path_model.specs.Key.{key_cmp}
use Rattle.path_model.specs.Notes.{is_absent}
use Rattle.path_model.specs.Routes.{is_of_peer}

-- the attribute of each key whose route has one
abbrev pub Marked : Type 0
Marked = map.FinMap key_cmp Otc

-- that of a key
abbrev pub mark_of : Marked → Key → Otc
mark_of marks key = unwrap_or (map.get marks key) Absent

-- the key's route has this attribute from now on, or none
abbrev pub marked_at : Key → Otc → Marked → Marked
marked_at key otc marks = if is_absent otc then map.remove marks key else map.insert marks key otc

-- the peer has no routes any more
abbrev pub without_peer : Peer → Marked → Marked
without_peer peer marks = map.retain_keys marks (λ key. not (is_of_peer peer key))

-- the first of some notes, and none of an attribute where there is no note
abbrev pub first_note : List Otc → Otc
first_note notes = unwrap_or (slice_get notes 0) Absent

-- what a list of changes makes of the marks, from its first to its last, where each announcement takes the next note
abbrev pub noted_by : List Change → List Otc → Marked → Marked
noted_by [] notes marks = marks
noted_by (Remove key ∷ more) notes marks = noted_by more notes (map.remove marks key)
noted_by (RemovePeer peer ∷ more) notes marks = noted_by more notes (without_peer peer marks)
noted_by (Announce key path ∷ more) notes marks = noted_by more (drop 1 notes) (marked_at key (first_note notes) marks)

-- the marks of a list of entries
abbrev pub marks_of : List (Key × Otc) → Marked
marks_of entries = map.from_entries entries
