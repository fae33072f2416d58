-- What announcements say of Only-to-Customer (RFC 9234, section 5), a note each.
use Rattle.std.specs.Prelude.{◌≡◌, ℕ, Bool, true, false, List, [], ◌∷◌, length, ◌+◌}
use Rattle.path_model.specs.declared.change.Change.{Change}
use Rattle.path_model.specs.declared.change.Change.TheVariants.{Remove, Announce, RemovePeer}
use Rattle.path_model.specs.declared.noted.Noted.{Noted}
use Rattle.path_model.specs.declared.otc.Otc.{Otc}
use Rattle.path_model.specs.declared.otc.Otc.TheVariants.{Absent, As, Malformed}

-- whether the announcement has no such attribute
abbrev pub is_absent : Otc → Bool
is_absent Absent = true
is_absent (As asn) = false
is_absent Malformed = false

-- how many of the changes are announcements
abbrev pub announced_of : List Change → ℕ
announced_of [] = 0
announced_of (Announce key path ∷ more) = announced_of more + 1
announced_of (Remove key ∷ more) = announced_of more
announced_of (RemovePeer peer ∷ more) = announced_of more

-- each announcement has its note
abbrev pub HasNotes : Noted → Type 0
HasNotes noted = length noted.notes ≡ announced_of noted.changes
