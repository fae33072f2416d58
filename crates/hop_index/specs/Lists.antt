-- Which hops lists of cases have.
use Rattle.std.specs.Prelude.{◌≡◌, ℕ, nat_eq, Bool, true, false, ◌||◌, ◌&&◌, not, List}
use Rattle.std.specs.declared.option.Option.{Option}
use Rattle.std.specs.BTreeMap.{is_at}
use Rattle.std.specs.Map.{lookup}
use Rattle.hop_index.specs.declared.pair.Pair.{Pair}
use Rattle.hop_index.specs.Hops.{has_hop}
use Rattle.hop_index.specs.Numbers.{found_has}
use Rattle.hop_index.specs.Pairs.{pair_of, pair_cmp}

-- lists: the two ASes of each hop, once and in no order, with the cases that have it
abbrev pub Lists : Type 0
Lists = List (Pair × List ℕ)

-- what is found of two ASes
abbrev pub at : Lists → Pair → Option (List ℕ)
at index pair = lookup (is_at (pair_cmp pair)) index

-- the lists have a hop of the case n between x and y
abbrev pub has : Lists → ℕ → ℕ → ℕ → Bool
has index x y n = found_has (at index (pair_of x y)) n

-- the lists have a hop of some case between x and y
abbrev pub SomeCaseHas : Lists → ℕ → ℕ → Type 0
SomeCaseHas index x y = (n : ℕ) × (has index x y n ≡ true)

-- lists without hops
abbrev pub HasNothing : Lists → Type 0
HasNothing index = (x y n : ℕ) → has index x y n ≡ false

-- `after` has the hops of `before` and those of this case between neighbours in the chain
abbrev pub Adds : Lists → ℕ → List ℕ → Lists → Type 0
Adds before case chain after =
    (x y n : ℕ) → has after x y n ≡ (has before x y n || (nat_eq n case && has_hop chain x y))

-- `after` has the hops of `before` but for those of this case between neighbours in the chain
abbrev pub Removes : Lists → ℕ → List ℕ → Lists → Type 0
Removes before case chain after =
    (x y n : ℕ) → has after x y n ≡ (has before x y n && not (nat_eq n case && has_hop chain x y))
