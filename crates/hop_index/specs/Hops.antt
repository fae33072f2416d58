-- The hops of a chain: a hop joins two neighbours, and it is the same hop from either of them.
use Rattle.std.specs.Prelude.{◌≡◌, ℕ, zero, suc, nat_eq, ◌+◌, ◌-◌, ◌<◌, Bool, false, ◌||◌, ◌&&◌, List, length, slice_index, ◌⊎◌}

-- x and y stand beside each other somewhere in the chain, in one order or the other
pub record AreNeighbours (chain : List ℕ) (x y : ℕ) : Type 0 where
  pub place : ℕ
  pub within : place + 1 < length chain
  pub joined : ((x ≡ slice_index chain place) × (y ≡ slice_index chain (place + 1)))
      ⊎ ((x ≡ slice_index chain (place + 1)) × (y ≡ slice_index chain place))

-- the same by test: the hop that begins at this place joins x and y,
abbrev pub joins_at : List ℕ → ℕ → ℕ → ℕ → Bool
joins_at chain place x y =
    (nat_eq x (slice_index chain place) && nat_eq y (slice_index chain (place + 1)))
    || (nat_eq x (slice_index chain (place + 1)) && nat_eq y (slice_index chain place))

-- one of the first so many hops does,
abbrev pub joins_within : ℕ → List ℕ → ℕ → ℕ → Bool
joins_within zero chain x y = false
joins_within (suc hops) chain x y = joins_within hops chain x y || joins_at chain hops x y

-- and one of all hops does
abbrev pub has_hop : List ℕ → ℕ → ℕ → Bool
has_hop chain x y = joins_within (length chain - 1) chain x y
