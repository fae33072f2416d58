-- The changes of batches, one after another (RFC 4271, section 4.3: all prefixes of an UPDATE that it announces have its path).
use Rattle.std.specs.Prelude.{List, [], ◌∷◌, map}
use Rattle.std.specs.List.{flat_map}
use Rattle.path_model.specs.declared.batch.Batch.{Batch}
use Rattle.path_model.specs.declared.batch.Batch.TheVariants.{One, RemoveAll, AnnounceAll}
use Rattle.path_model.specs.declared.change.Change.{Change}
use Rattle.path_model.specs.declared.change.Change.TheVariants.{Remove, Announce}
use Rattle.path_model.specs.declared.nlri.Nlri.{Nlri}
use Rattle.path_model.specs.declared.peer.Peer.{Peer}
use Rattle.path_model.specs.Key.{key_of}
use Rattle.path_model.specs.Trail.{Path}

-- the peer withdraws these
abbrev pub removals : Peer → List Nlri → List Change
removals peer nlris = map (λ nlri. Remove (key_of peer nlri)) nlris

-- the peer announces these, all with one path
abbrev pub announcements : Peer → Path → List Nlri → List Change
announcements peer trail nlris = map (λ nlri. Announce (key_of peer nlri) trail) nlris

-- the changes of one batch
abbrev pub changes_in : Batch → List Change
changes_in (One change) = change ∷ []
changes_in (RemoveAll peer nlris) = removals peer nlris
changes_in (AnnounceAll peer trail nlris) = announcements peer trail nlris

-- those of all, from the first batch to the last
abbrev pub all_changes : List Batch → List Change
all_changes batches = flat_map changes_in batches
