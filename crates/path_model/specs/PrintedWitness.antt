-- The one witness of each case that is printed: the first cause of three, or the longest climb, or the outermost hops that stop the ramps.
use Rattle.std.specs.Prelude.{◌≡◌, ◌≢◌, ℕ, ◌+◌, ◌<◌, ◌≤◌, true, List, [], length}
use Rattle.std.specs.declared.option.Option.{Option}
use Rattle.std.specs.declared.option.Option.TheVariants.{Some, None}
use Rattle.path_model.specs.declared.role.Role.{Role}
use Rattle.path_model.specs.declared.role.Direction.{Direction}
use Rattle.path_model.specs.declared.role.Direction.TheVariants.{Up, Down}
use Rattle.path_model.specs.declared.verdict.Verdict.{Verdict}
use Rattle.path_model.specs.declared.witness.Witness.{Witness}
use Rattle.path_model.specs.declared.witness.Witness.TheVariants.{Valid as ByLabelling, Empty, Set, Neighbour, Blocked, Unsettled}
use Rattle.path_model.specs.Authority.{Table}
use Rattle.path_model.specs.Trail.{Path}
use Rattle.path_model.specs.Labelling.{Labelling, LabelsEachHop, Climbs, MayClimb, DoesNotClimb, DoesNotDescend, RefusesToClimb, RefusesToDescend, direction_of, tests_neighbour}
use Rattle.path_model.specs.RightVerdict.{EndsAt, IsInvalidAtOnce, IsRight}
use Rattle.path_model.specs.Witness.{IsHop, labelling, shown_by}

-- the least hop of which this is so
pub record IsLeastHop (chain : List ℕ) (does : ℕ → Type 0) (i : ℕ) : Type 0 where
  pub hop : IsHop chain does i
  pub least : (other : ℕ) → IsHop chain does other → i ≤ other

-- the greatest hop of which this is so
pub record IsGreatestHop (chain : List ℕ) (does : ℕ → Type 0) (i : ℕ) : Type 0 where
  pub hop : IsHop chain does i
  pub greatest : (other : ℕ) → IsHop chain does other → other ≤ i

-- downstream the greatest hop of which this is so, and upstream none
abbrev pub IsLastHop : Direction → List ℕ → (ℕ → Type 0) → Option ℕ → Type 0
IsLastHop Up chain does last = last ≡ None
IsLastHop Down chain does None = ⊥
IsLastHop Down chain does (Some last) = IsGreatestHop chain does last

-- The climbs are the longest run of hops that climb, from the first hop on. Then one hop is free, if one is left, and all others descend.
pub record IsLongestClimb (chain : List ℕ) (climbs : ℕ → Type 0) (labelling : Labelling) : Type 0 where
  pub run : (k : ℕ) → k < labelling.climbs → climbs k
  pub longest : labelling.climbs + 1 < length chain → ¬ climbs labelling.climbs
  pub free : labelling.climbs + 1 < length chain → labelling.free ≡ 1
  pub no_free : labelling.climbs + 1 ≡ length chain → labelling.free ≡ 0
  pub each_hop : LabelsEachHop chain labelling

-- Which of the witnesses of its verdict is printed. Empty comes before Set, and Set before Neighbour.
abbrev pub IsChosen : Table → Role → ℕ → Path → Witness → Type 0
IsChosen table role neighbour path Empty = path.chain ≡ []
IsChosen table role neighbour path Set = (path.chain ≢ []) × (path.set ≡ true)
IsChosen table role neighbour path Neighbour =
    (path.chain ≢ []) × (path.set ≢ true) × (tests_neighbour role ≡ true) × ¬ EndsAt path.chain neighbour
IsChosen table role neighbour path (ByLabelling c f d) = IsLongestClimb path.chain (Climbs table path.chain) (labelling c f d)
IsChosen table role neighbour path (Blocked first last) = (¬ IsInvalidAtOnce role neighbour path)
    × IsLeastHop path.chain (RefusesToClimb table path.chain) first
    × IsLastHop (direction_of role) path.chain (RefusesToDescend table path.chain) last
IsChosen table role neighbour path (Unsettled first last c f d) =
    IsLeastHop path.chain (DoesNotClimb table path.chain) first
    × IsLastHop (direction_of role) path.chain (DoesNotDescend table path.chain) last
    × IsLongestClimb path.chain (MayClimb table path.chain) (labelling c f d)

-- the right verdict, and the witness of it that is printed
pub record IsPrinted (table : Table) (role : Role) (neighbour : ℕ) (path : Path) (verdict : Verdict) (witness : Witness) : Type 0 where
  pub right : IsRight table role neighbour path verdict
  pub verdict_shown : verdict ≡ shown_by witness
  pub chosen : IsChosen table role neighbour path witness
