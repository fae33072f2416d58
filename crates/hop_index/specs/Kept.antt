-- How hops are held, and what one hop more or less is there. Private contracts alone cite it.
use Rattle.std.specs.Prelude.{◌≡◌, ◌≢◌, ℕ, ◌<◌, ◌^◌, nat_eq, Bool, true, false, cond, ◌||◌, ◌&&◌, not, List, []}
use Rattle.std.specs.declared.option.Option.{Option}
use Rattle.std.specs.declared.option.Option.TheVariants.{Some, None}
use Rattle.std.specs.BTreeMap.{is_at}
use Rattle.std.specs.List.Sorted.{IsStrictlySortedBy}
use Rattle.std.specs.Map.{lookup}
use Rattle.std.specs.Ordering.{nat_cmp}
use Rattle.hop_index.specs.declared.gone.GoneHop.{GoneHop}
use Rattle.hop_index.specs.declared.pair.Pair.{Pair}
use Rattle.hop_index.specs.Gone.{has_gone}
use Rattle.hop_index.specs.Lists.{Lists, at, has}
use Rattle.hop_index.specs.Hops.{has_hop}
use Rattle.hop_index.specs.Loose.{Chains, chain_at}
use Rattle.hop_index.specs.Numbers.{found_has, numbers_or}
use Rattle.hop_index.specs.Pairs.{pair_of, pair_cmp}

-- each AS that has neighbours, in order, with them
abbrev pub Ends : Type 0
Ends = List (ℕ × List ℕ)

-- what is found of one AS
abbrev pub neighbours_found : Ends → ℕ → Option (List ℕ)
neighbours_found ends x = lookup (is_at (nat_cmp x)) ends

-- y is among the neighbours of x
abbrev pub are_beside : Ends → ℕ → ℕ → Bool
are_beside ends x y = found_has (neighbours_found ends x) y

-- `after` has y as a neighbour of x beside those of `before`
abbrev pub AddsNeighbour : Ends → ℕ → ℕ → Ends → Type 0
AddsNeighbour before x y after =
    (u v : ℕ) → are_beside after u v ≡ (are_beside before u v || (nat_eq u x && nat_eq v y))

-- `after` has the neighbours of `before` but for y as one of x
abbrev pub RemovesNeighbour : Ends → ℕ → ℕ → Ends → Type 0
RemovesNeighbour before x y after =
    (u v : ℕ) → are_beside after u v ≡ (are_beside before u v && not (nat_eq u x && nat_eq v y))

-- no AS stands there without neighbours
abbrev pub HaveNeighbours : Ends → Type 0
HaveNeighbours ends = (x : ℕ) → neighbours_found ends x ≢ Some []

-- something was found
abbrev pub is_there : Option (List ℕ) → Bool
is_there None = false
is_there (Some cases) = true

-- the hop has an entry
abbrev pub stands : Lists → Pair → Bool
stands hops pair = is_there (at hops pair)

-- the two pairs are the same
abbrev pub is_pair : Pair → Pair → Bool
is_pair p q = nat_eq p.low q.low && nat_eq p.high q.high

-- what is found of the hop is `now` after the change, and nothing else changed
abbrev pub Updates : Lists → Pair → Option (List ℕ) → Lists → Type 0
Updates before pair now after = (p : Pair) → at after p ≡ cond (is_at (pair_cmp pair) p) now (at before p)

-- `after` has one case of a hop more than `before`
abbrev pub AddsCase : Lists → Pair → ℕ → Lists → Type 0
AddsCase before pair case after =
    (p : Pair) (n : ℕ) → found_has (at after p) n ≡ (found_has (at before p) n || (is_pair p pair && nat_eq n case))

-- `after` has one case of a hop less than `before`
abbrev pub RemovesCase : Lists → Pair → ℕ → Lists → Type 0
RemovesCase before pair case after =
    (p : Pair) (n : ℕ) → found_has (at after p) n ≡ (found_has (at before p) n && not (is_pair p pair && nat_eq n case))

-- no hop stands there without cases
abbrev pub HaveCases : Lists → Type 0
HaveCases hops = (p : Pair) → at hops p ≢ Some []

-- the cases of each hop rise
abbrev pub AreRising : Lists → Type 0
AreRising hops = (p : Pair) → IsStrictlySortedBy nat_cmp (numbers_or (at hops p))

-- the hop of the case n between x and y is that of this case between u and v
abbrev pub is_hop : ℕ → ℕ → ℕ → ℕ → ℕ → ℕ → Bool
is_hop x y n u v case = nat_eq n case && ((nat_eq x u && nat_eq y v) || (nat_eq x v && nat_eq y u))

-- `after` has the hop of one case between u and v beside those of `before`
abbrev pub AddsHop : Lists → ℕ → ℕ → ℕ → Lists → Type 0
AddsHop before u v case after = (x y n : ℕ) → has after x y n ≡ (has before x y n || is_hop x y n u v case)

-- `after` has the hops of `before` but for that of one case between u and v
abbrev pub RemovesHop : Lists → ℕ → ℕ → ℕ → Lists → Type 0
RemovesHop before u v case after = (x y n : ℕ) → has after x y n ≡ (has before x y n && not (is_hop x y n u v case))

-- `after` has the hop of one case between u and v beside those of `before`, of hops that go together
abbrev pub GathersHop : List GoneHop → ℕ → ℕ → ℕ → List GoneHop → Type 0
GathersHop before u v case after = (x y n : ℕ) → has_gone after x y n ≡ (has_gone before x y n || is_hop x y n u v case)

-- two ASes are beside each other exactly where their hop has cases
abbrev pub AreJoined : Ends → Lists → Type 0
AreJoined ends hops = (x y : ℕ) → are_beside ends x y ≡ stands hops (pair_of x y)

-- the neighbours of each AS and the cases of each hop, which are numbers below 2^32
pub record AreKept (ends : Ends) (hops : Lists) : Type 0 where
  pub joined : AreJoined ends hops
  pub neighbours : HaveNeighbours ends
  pub cases : HaveCases hops
  pub rising : AreRising hops
  pub few : (x y n : ℕ) → has hops x y n ≡ true → n < 2 ^ 32

-- the lists `after` have the hops of `before` but for these
abbrev pub RemovesEach : Lists → List GoneHop → Lists → Type 0
RemovesEach before gone after = (x y n : ℕ) → has after x y n ≡ (has before x y n && not (has_gone gone x y n))

-- the lists have the hops of these chains and no others
abbrev pub HaveChains : Chains → Lists → Type 0
HaveChains chains lists = (x y n : ℕ) → has lists x y n ≡ has_hop (chain_at chains n) x y
