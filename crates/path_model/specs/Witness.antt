-- What a witness shows: facts of single hops and of one labelling, from which the verdict follows. A witness counts hops from 1, so its hop i
-- joins the ASes at the places i - 1 and i.
use Rattle.std.specs.Prelude.{◌≡◌, ◌≢◌, ℕ, ◌+◌, ◌<◌, true, List, [], length}
use Rattle.std.specs.declared.option.Option.{Option}
use Rattle.std.specs.declared.option.Option.TheVariants.{Some, None}
use Rattle.path_model.specs.declared.role.Role.{Role}
use Rattle.path_model.specs.declared.role.Direction.{Direction}
use Rattle.path_model.specs.declared.role.Direction.TheVariants.{Up, Down}
use Rattle.path_model.specs.declared.verdict.Verdict.{Verdict}
use Rattle.path_model.specs.declared.verdict.Verdict.TheVariants.{Valid, Unknown, Invalid}
use Rattle.path_model.specs.declared.witness.Witness.{Witness}
use Rattle.path_model.specs.declared.witness.Witness.TheVariants.{Valid as ByLabelling, Empty, Set, Neighbour, Blocked, Unsettled}
use Rattle.path_model.specs.Authority.{Table}
use Rattle.path_model.specs.Trail.{Path}
use Rattle.path_model.specs.Labelling.{Labelling, Climbs, Descends, MayClimb, MayDescend, DoesNotClimb, DoesNotDescend, RefusesToClimb, RefusesToDescend, Fits, direction_of, tests_neighbour}
use Rattle.path_model.specs.RightVerdict.{EndsAt, IsInvalidAtOnce}

-- i is a hop of the chain, counted from 1, of which this is so
pub record IsHop (chain : List ℕ) (does : ℕ → Type 0) (i : ℕ) : Type 0 where
  pub place : ℕ
  pub number : i ≡ place + 1
  pub within : i < length chain
  pub so : does place

-- downstream a later hop of which this is so, and upstream none
abbrev pub IsLaterHop : Direction → List ℕ → (ℕ → Type 0) → ℕ → Option ℕ → Type 0
IsLaterHop Up chain does first last = last ≡ None
IsLaterHop Down chain does first None = ⊥
IsLaterHop Down chain does first (Some last) = (first < last) × IsHop chain does last

-- the labelling that a witness names
abbrev pub labelling : ℕ → ℕ → ℕ → Labelling
labelling climbs free descents = record { climbs = climbs; free = free; descents = descents }

-- the verdict that a witness speaks for
abbrev pub shown_by : Witness → Verdict
shown_by Empty = Invalid
shown_by Set = Invalid
shown_by Neighbour = Invalid
shown_by (ByLabelling c f d) = Valid
shown_by (Blocked first last) = Invalid
shown_by (Unsettled first last c f d) = Unknown

-- What each witness shows. The first three: the path is invalid whatever is attested. The fourth: a labelling fits. The fifth: a hop refuses
-- to climb, and downstream a later one refuses to descend, so no completion makes a labelling fit. The last: so far the hops do no more than
-- that, and a labelling fits where silence counts as an attestation.
abbrev pub Shows : Table → Role → ℕ → Path → Witness → Type 0
Shows table role neighbour path Empty = path.chain ≡ []
Shows table role neighbour path Set = path.set ≡ true
Shows table role neighbour path Neighbour = (path.chain ≢ []) × (tests_neighbour role ≡ true) × ¬ EndsAt path.chain neighbour
Shows table role neighbour path (ByLabelling c f d) = (¬ IsInvalidAtOnce role neighbour path)
    × Fits (Climbs table path.chain) (Descends table path.chain) (direction_of role) path.chain (labelling c f d)
Shows table role neighbour path (Blocked first last) = (¬ IsInvalidAtOnce role neighbour path)
    × IsHop path.chain (RefusesToClimb table path.chain) first
    × IsLaterHop (direction_of role) path.chain (RefusesToDescend table path.chain) first last
Shows table role neighbour path (Unsettled first last c f d) = (¬ IsInvalidAtOnce role neighbour path)
    × IsHop path.chain (DoesNotClimb table path.chain) first
    × IsLaterHop (direction_of role) path.chain (DoesNotDescend table path.chain) first last
    × Fits (MayClimb table path.chain) (MayDescend table path.chain) (direction_of role) path.chain (labelling c f d)

-- the facts of a verdict and a witness: the witness speaks for the verdict, and what it shows is so
pub record Facts (table : Table) (role : Role) (neighbour : ℕ) (path : Path) (verdict : Verdict) (witness : Witness) : Type 0 where
  pub verdict_shown : verdict ≡ shown_by witness
  pub shows : Shows table role neighbour path witness
