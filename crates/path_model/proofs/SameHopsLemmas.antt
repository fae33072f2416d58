-- Hops of which two tables say the same: what holds of them by the one holds by the other.
use Rattle.std.proofs.Common.{◌≡◌, ◌≢◌, ℕ, ◌+◌, ◌<◌, List, length, sym, subst, arith}
use Rattle.std.specs.declared.option.Option.{Option}
use Rattle.std.specs.declared.option.Option.TheVariants.{Some, None}
use Rattle.path_model.specs.declared.authority.Authority.{Authority}
use Rattle.path_model.specs.declared.authority.Authority.TheVariants.{Refuses, Provides}
use Rattle.path_model.specs.declared.role.Role.{Role}
use Rattle.path_model.specs.declared.role.Direction.{Direction}
use Rattle.path_model.specs.declared.role.Direction.TheVariants.{Up, Down}
use Rattle.path_model.specs.declared.witness.Witness.{Witness}
use Rattle.path_model.specs.declared.witness.Witness.TheVariants.{Valid as ByLabelling, Empty, Set, Neighbour, Blocked, Unsettled}
use Rattle.path_model.specs.Authority.{Table}
use Rattle.path_model.specs.Trail.{Path}
use Rattle.path_model.specs.Labelling.{Labelling, direction_of}
use Rattle.path_model.specs.Laws.{SameOnHops}
use Rattle.path_model.specs.Witness.{IsHop, labelling, IsLaterHop, Shows}
use Rattle.path_model.specs.PrintedWitness.{IsLeastHop, IsLastHop, IsLongestClimb, IsChosen}
use Rattle.path_model.proofs.WitnessLemmas.{Fits-more}

-- a hop that does something does also what follows from it
hop_more : (chain : List ℕ) (does too : ℕ → Type 0) (i : ℕ) → ((k : ℕ) → k + 1 < length chain → does k → too k) → IsHop chain does i
    → IsHop chain too i
hop_more chain does too i more hop = record { place = hop.place; number = hop.number; within = hop.within; so = more hop.place (omega (arith, hop.number, hop.within)) hop.so }

-- and a later hop
later_more : (direction : Direction) (chain : List ℕ) (does too : ℕ → Type 0) (i : ℕ) (j : Option ℕ)
    → ((k : ℕ) → k + 1 < length chain → does k → too k) → IsLaterHop direction chain does i j → IsLaterHop direction chain too i j
later_more Up chain does too i j more later = later
later_more Down chain does too i None more later = later
later_more Down chain does too i (Some j) more later = (later.0, hop_more chain does too j more later.1)

-- the least hop stays the least where the two facts are one
least_as : (chain : List ℕ) (does too : ℕ → Type 0) (i : ℕ) → ((k : ℕ) → k + 1 < length chain → does k → too k)
    → ((k : ℕ) → k + 1 < length chain → too k → does k) → IsLeastHop chain does i → IsLeastHop chain too i
least_as chain does too i more back least = record { hop = hop_more chain does too i more least.hop; least = λ other hop. least.least other (hop_more chain too does other back hop) }

-- and the last the last
last_as : (direction : Direction) (chain : List ℕ) (does too : ℕ → Type 0) (j : Option ℕ) → ((k : ℕ) → k + 1 < length chain → does k → too k)
    → ((k : ℕ) → k + 1 < length chain → too k → does k) → IsLastHop direction chain does j → IsLastHop direction chain too j
last_as Up chain does too j more back last = last
last_as Down chain does too None more back last = last
last_as Down chain does too (Some j) more back last = record { hop = hop_more chain does too j more last.hop; greatest = λ other hop. last.greatest other (hop_more chain too does other back hop) }

-- and the longest climb the longest
longest_as : (chain : List ℕ) (climbs too : ℕ → Type 0) (l : Labelling) → ((k : ℕ) → k + 1 < length chain → climbs k → too k)
    → ((k : ℕ) → k + 1 < length chain → too k → climbs k) → IsLongestClimb chain climbs l → IsLongestClimb chain too l
longest_as chain climbs too l more back longest = record {
  run = λ k below. more k (omega (arith, longest.each_hop)) (longest.run k below);
  longest = λ left climbs. longest.longest left (back l.climbs left climbs);
  free = longest.free;
  no_free = longest.no_free;
  each_hop = longest.each_hop;
}

-- what holds of an authority holds of one that is the same
moved : (P : Authority → Type 0) (a b : Authority) → a ≡ b → P a → P b
moved P a b same p = subst P same p

-- the printed witness stays printed
pub chosen_as : (one other : Table) (role : Role) (neighbour : ℕ) (path : Path) (witness : Witness) → SameOnHops one other path.chain
    → IsChosen one role neighbour path witness → IsChosen other role neighbour path witness
chosen_as one other role neighbour path Empty same chosen = chosen
chosen_as one other role neighbour path Set same chosen = chosen
chosen_as one other role neighbour path Neighbour same chosen = chosen
chosen_as one other role neighbour path (ByLabelling c f d) same chosen =
    longest_as path.chain _ _ (labelling c f d) (λ k within. moved (λ a. a ≡ Provides) _ _ (same.upward k within)) (λ k within. moved (λ a. a ≡ Provides) _ _ (sym (same.upward k within))) chosen
chosen_as one other role neighbour path (Blocked i j) same chosen = (
  chosen.0,
  least_as path.chain _ _ i (λ k within. moved (λ a. a ≡ Refuses) _ _ (same.upward k within)) (λ k within. moved (λ a. a ≡ Refuses) _ _ (sym (same.upward k within))) chosen.1,
  last_as (direction_of role) path.chain _ _ j (λ k within. moved (λ a. a ≡ Refuses) _ _ (same.downward k within)) (λ k within. moved (λ a. a ≡ Refuses) _ _ (sym (same.downward k within))) chosen.2,
)
chosen_as one other role neighbour path (Unsettled i j c f d) same chosen = (
  least_as path.chain _ _ i (λ k within. moved (λ a. a ≢ Provides) _ _ (same.upward k within)) (λ k within. moved (λ a. a ≢ Provides) _ _ (sym (same.upward k within))) chosen.0,
  last_as (direction_of role) path.chain _ _ j (λ k within. moved (λ a. a ≢ Provides) _ _ (same.downward k within)) (λ k within. moved (λ a. a ≢ Provides) _ _ (sym (same.downward k within))) chosen.1,
  longest_as path.chain _ _ (labelling c f d) (λ k within. moved (λ a. a ≢ Refuses) _ _ (same.upward k within)) (λ k within. moved (λ a. a ≢ Refuses) _ _ (sym (same.upward k within))) chosen.2,
)

-- what a witness shows stays shown
pub shows_as : (one other : Table) (role : Role) (neighbour : ℕ) (path : Path) (witness : Witness) → SameOnHops one other path.chain
    → Shows one role neighbour path witness → Shows other role neighbour path witness
shows_as one other role neighbour path Empty same shows = shows
shows_as one other role neighbour path Set same shows = shows
shows_as one other role neighbour path Neighbour same shows = shows
shows_as one other role neighbour path (ByLabelling c f d) same shows = (
  shows.0,
  Fits-more _ _ _ _ (direction_of role) path.chain (labelling c f d) (λ k within. moved (λ a. a ≡ Provides) _ _ (same.upward k within)) (λ k within. moved (λ a. a ≡ Provides) _ _ (same.downward k within)) shows.1,
)
shows_as one other role neighbour path (Blocked i j) same shows = (
  shows.0,
  hop_more path.chain _ _ i (λ k within. moved (λ a. a ≡ Refuses) _ _ (same.upward k within)) shows.1,
  later_more (direction_of role) path.chain _ _ i j (λ k within. moved (λ a. a ≡ Refuses) _ _ (same.downward k within)) shows.2,
)
shows_as one other role neighbour path (Unsettled i j c f d) same shows = (
  shows.0,
  hop_more path.chain _ _ i (λ k within. moved (λ a. a ≢ Provides) _ _ (same.upward k within)) shows.1,
  later_more (direction_of role) path.chain _ _ i j (λ k within. moved (λ a. a ≢ Provides) _ _ (same.downward k within)) shows.2,
  Fits-more _ _ _ _ (direction_of role) path.chain (labelling c f d) (λ k within. moved (λ a. a ≢ Refuses) _ _ (same.upward k within)) (λ k within. moved (λ a. a ≢ Refuses) _ _ (same.downward k within)) shows.3,
)
