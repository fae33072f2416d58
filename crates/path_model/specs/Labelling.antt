-- How the hops of a chain may be labelled. Hop k joins the ASes at the places k and k + 1, counted from the origin, at 0.
-- The algorithms for upstream and for downstream paths of draft-ietf-sidrops-aspa-verification say the same by ramps: an up-ramp, at most
-- one hop at the top, and a down-ramp.
use Rattle.std.specs.Prelude.{◌≡◌, ◌≢◌, ℕ, ◌+◌, ◌<◌, ◌≤◌, Bool, true, false, List, length, slice_index}
use Rattle.path_model.specs.declared.authority.Authority.{Authority}
use Rattle.path_model.specs.declared.authority.Authority.TheVariants.{Refuses, Provides}
use Rattle.path_model.specs.declared.role.Role.{Role}
use Rattle.path_model.specs.declared.role.Role.TheVariants.{Provider, Customer, Peer, Rs, RsClient, Mutual}
use Rattle.path_model.specs.declared.role.Direction.{Direction}
use Rattle.path_model.specs.declared.role.Direction.TheVariants.{Up, Down}
use Rattle.path_model.specs.Authority.{Table, authority_of}

-- what the lower AS of the hop at place k attests of the upper one
abbrev pub upward : Table → List ℕ → ℕ → Authority
upward table chain k = authority_of table (slice_index chain k) (slice_index chain (k + 1))

-- what the upper AS of the hop at place k attests of the lower one
abbrev pub downward : Table → List ℕ → ℕ → Authority
downward table chain k = authority_of table (slice_index chain (k + 1)) (slice_index chain k)

-- the hop climbs: its lower AS attests the upper one as its provider
abbrev pub Climbs : Table → List ℕ → ℕ → Type 0
Climbs table chain k = upward table chain k ≡ Provides

-- the hop descends: its upper AS attests the lower one as its provider
abbrev pub Descends : Table → List ℕ → ℕ → Type 0
Descends table chain k = downward table chain k ≡ Provides

-- the lower AS attests, and not the upper one
abbrev pub RefusesToClimb : Table → List ℕ → ℕ → Type 0
RefusesToClimb table chain k = upward table chain k ≡ Refuses

-- the upper AS attests, and not the lower one
abbrev pub RefusesToDescend : Table → List ℕ → ℕ → Type 0
RefusesToDescend table chain k = downward table chain k ≡ Refuses

-- the hop climbs where silence counts as an attestation
abbrev pub MayClimb : Table → List ℕ → ℕ → Type 0
MayClimb table chain k = upward table chain k ≢ Refuses

-- the hop descends where silence counts as an attestation
abbrev pub MayDescend : Table → List ℕ → ℕ → Type 0
MayDescend table chain k = downward table chain k ≢ Refuses

-- the lower AS refuses the upper one, or is silent
abbrev pub DoesNotClimb : Table → List ℕ → ℕ → Type 0
DoesNotClimb table chain k = upward table chain k ≢ Provides

-- the upper AS refuses the lower one, or is silent
abbrev pub DoesNotDescend : Table → List ℕ → ℕ → Type 0
DoesNotDescend table chain k = downward table chain k ≢ Provides

-- a labelling of a chain's hops from the origin on: so many climbs, then so many free hops, then so many descents
pub record Labelling : Type 0 where
  pub climbs : ℕ
  pub free : ℕ
  pub descents : ℕ

-- An upstream path may only climb. A downstream path climbs, then has at most one free hop, and then descends.
abbrev pub IsOfShape : Direction → Labelling → Type 0
IsOfShape Up labelling = (labelling.free ≡ 0) × (labelling.descents ≡ 0)
IsOfShape Down labelling = labelling.free ≤ 1

-- each hop has one label: the climbs come first, then the free hops, then the descents
abbrev pub LabelsEachHop : List ℕ → Labelling → Type 0
LabelsEachHop chain labelling = labelling.climbs + labelling.free + labelling.descents + 1 ≡ length chain

-- The labelling is of the direction's shape and labels each hop, and each hop does as it is labelled. Which hops climb and which descend
-- is given: by the table, or also where silence counts as an attestation. A free hop needs nothing.
pub record Fits (climbs descends : ℕ → Type 0) (direction : Direction) (chain : List ℕ) (labelling : Labelling) : Type 0 where
  pub shape : IsOfShape direction labelling
  pub each_hop : LabelsEachHop chain labelling
  pub climbing : (k : ℕ) → k < labelling.climbs → climbs k
  pub descending : (k : ℕ) → labelling.climbs + labelling.free ≤ k
      → k < labelling.climbs + labelling.free + labelling.descents → descends k

-- some labelling of the direction's shape fits
pub record IsValid (table : Table) (direction : Direction) (chain : List ℕ) : Type 0 where
  pub labelling : Labelling
  pub fits : Fits (Climbs table chain) (Descends table chain) direction chain labelling

-- Which algorithm judges a path that a neighbour of this role sent (RFC 9234, section 4.1): the one for downstream paths where the
-- neighbour is a provider or both provider and customer, else the one for upstream paths.
abbrev pub direction_of : Role → Direction
direction_of Provider = Down
direction_of Mutual = Down
direction_of Customer = Up
direction_of Peer = Up
direction_of Rs = Up
direction_of RsClient = Up

-- Whether the path has to end at the neighbour. A route server need not put its own AS into the path (RFC 7947, section 2.2.2.1).
abbrev pub tests_neighbour : Role → Bool
tests_neighbour Rs = false
tests_neighbour Provider = true
tests_neighbour Customer = true
tests_neighbour Peer = true
tests_neighbour RsClient = true
tests_neighbour Mutual = true
