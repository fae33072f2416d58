-- Laws of the definitions, each the contract of a public function of the module `laws`.
use Rattle.std.specs.Prelude.{◌≡◌, ◌↔◌, ℕ, nat_eq, Bool, true, ◌&&◌, List}
use Rattle.std.specs.List.{list_any}
use Rattle.hop_index.specs.Hops.{AreNeighbours, has_hop}
use Rattle.hop_index.specs.Index.{Entries, has, HasNoneOf, Adds, Removes}
use Rattle.hop_index.specs.Ends.{has_end}

-- the test tells where two ASes stand beside each other
abbrev pub HopsJoinNeighbours : Type 0
HopsJoinNeighbours = (chain : List ℕ) (x y : ℕ) → (has_hop chain x y ≡ true) ↔ AreNeighbours chain x y

-- what is added of a case that the index has no hop of, and then removed, leaves the hops that were there
abbrev pub RemovalUndoesAddition : Type 0
RemovalUndoesAddition =
    (before more after : Entries) (case : ℕ) (chain : List ℕ) → HasNoneOf before case
    → Adds before case chain more → Removes more case chain after
    → (x y n : ℕ) → has after x y n ≡ has before x y n

-- where these are exactly the other ends and cases of x's hops, a case is among them with an AS of which p is so exactly where it has a hop
-- between x and such an AS
abbrev pub EndsReachCases : Type 0
EndsReachCases =
    (index : Entries) (x n : ℕ) (p : ℕ → Bool) (ends : List (ℕ × ℕ))
    → ((y : ℕ) → has_end ends y n ≡ has index x y n)
    → (list_any (λ end. p end.0 && nat_eq n end.1) ends ≡ true)
    ↔ ((y : ℕ) × (has index x y n ≡ true) × (p y ≡ true))
