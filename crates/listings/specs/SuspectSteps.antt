-- For which valleys a pair is noted. Private contracts alone cite it.
use Rattle.std.specs.Prelude.{⊤}
use Rattle.path_model.specs.declared.witness.Witness.{Witness}
use Rattle.path_model.specs.declared.witness.Witness.TheVariants.{Valid as ByLabelling, Empty, Set, Neighbour, Blocked, Unsettled}
use Rattle.path_model.specs.Authority.{Table}
use Rattle.path_model.specs.Labelling.{direction_of}
use Rattle.rib_store.specs.Pairs.{Paired}
use Rattle.valleys.specs.declared.valley.Valley.{Valley}
use Rattle.valleys.specs.Valleys.{HasValley}

-- the witness is `Blocked`
abbrev pub IsBlocked : Witness → Type 0
IsBlocked Empty = ⊥
IsBlocked Set = ⊥
IsBlocked Neighbour = ⊥
IsBlocked (ByLabelling c f d) = ⊥
IsBlocked (Blocked first last) = ⊤
IsBlocked (Unsettled first last c f d) = ⊥

-- the pair's witness is, and its path has the valley
pub record IsNoted (table : Table) (p : Paired) (valley : Valley) : Type 0 where
  pub blocked : IsBlocked p.standing.witness
  pub has : HasValley table (direction_of p.standing.role) p.standing.path.chain valley
