-- Which hops an index has.
use Rattle.std.specs.Prelude.{◌≡◌, ℕ, nat_eq, Bool, true, false, ◌||◌, ◌&&◌, not, List, ◌⊎◌, ⊤}
use Rattle.hop_index.specs.declared.gone.GoneHop.{GoneHop}
use Rattle.hop_index.specs.declared.index.Kept.{Kept}
use Rattle.hop_index.specs.declared.index.Kept.TheVariants.{Loose, Listed}
use Rattle.hop_index.specs.Gone.{has_gone}
use Rattle.hop_index.specs.Hops.{has_hop}
use Rattle.hop_index.specs.Lists.{has as lists_have}
use Rattle.hop_index.specs.Loose.{chain_at}

-- an index: the chains of the cases, or lists of the cases by their hops
abbrev pub Entries : Type 0
Entries = Kept

-- the index has a hop of the case n between x and y
abbrev pub has : Entries → ℕ → ℕ → ℕ → Bool
has (Loose chains) x y n = has_hop (chain_at chains n) x y
has (Listed lists) x y n = lists_have lists x y n

-- the index has a hop of some case between x and y
abbrev pub IsNeighbour : Entries → ℕ → ℕ → Type 0
IsNeighbour index x y = (n : ℕ) × (has index x y n ≡ true)

-- the hops are in lists
abbrev pub IsListed : Entries → Type 0
IsListed (Loose chains) = ⊥
IsListed (Listed lists) = ⊤

-- an index without hops
abbrev pub HasNothing : Entries → Type 0
HasNothing index = (x y n : ℕ) → has index x y n ≡ false

-- an index without hops of a case
abbrev pub HasNoneOf : Entries → ℕ → Type 0
HasNoneOf index case = (x y : ℕ) → has index x y case ≡ false

-- this chain has each hop of the case
abbrev pub IsWholeChain : Entries → ℕ → List ℕ → Type 0
IsWholeChain index case chain = (x y : ℕ) → has index x y case ≡ true → has_hop chain x y ≡ true

-- `after` has the hops of `before`
abbrev pub HasTheSame : Entries → Entries → Type 0
HasTheSame before after = (x y n : ℕ) → has after x y n ≡ has before x y n

-- `after` has the hops of `before` and those of this case between neighbours in the chain
abbrev pub Adds : Entries → ℕ → List ℕ → Entries → Type 0
Adds before case chain after =
    (x y n : ℕ) → has after x y n ≡ (has before x y n || (nat_eq n case && has_hop chain x y))

-- `after` has the hops of `before` but for those of this case between neighbours in the chain
abbrev pub Removes : Entries → ℕ → List ℕ → Entries → Type 0
Removes before case chain after =
    (x y n : ℕ) → has after x y n ≡ (has before x y n && not (nat_eq n case && has_hop chain x y))

-- the index `after` has the hops of `before` but for these
abbrev pub RemovesEach : Entries → List GoneHop → Entries → Type 0
RemovesEach before gone after = (x y n : ℕ) → has after x y n ≡ (has before x y n && not (has_gone gone x y n))

-- the hop of the case n between x and y is in the index and not among those that go
abbrev pub stays : Entries → List GoneHop → ℕ → ℕ → ℕ → Bool
stays index gone x y n = has index x y n && not (has_gone gone x y n)

-- hops that go are gathered only where the hops are in lists
abbrev pub AreGathered : Entries → List GoneHop → Type 0
AreGathered index gone = IsListed index ⊎ ((x y n : ℕ) → has_gone gone x y n ≡ false)

-- the hops of this case between neighbours in the chain go, or come to those that go
abbrev pub LetsGo : Entries → List GoneHop → ℕ → List ℕ → Entries → List GoneHop → Type 0
LetsGo before gone case chain after more =
    (x y n : ℕ) → stays after more x y n ≡ (stays before gone x y n && not (nat_eq n case && has_hop chain x y))
