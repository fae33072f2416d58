-- Hops of cases that go together.
use Rattle.std.specs.Prelude.{◌≡◌, ℕ, nat_eq, Bool, ◌||◌, ◌&&◌, List}
use Rattle.std.specs.List.{list_any}
use Rattle.hop_index.specs.declared.gone.GoneHop.{GoneHop}
use Rattle.hop_index.specs.Hops.{has_hop}

-- this is the hop of the case n between x and y, in one direction or the other
abbrev pub is_gone : ℕ → ℕ → ℕ → GoneHop → Bool
is_gone x y n hop =
    nat_eq n hop.case
    && ((nat_eq x hop.pair.low && nat_eq y hop.pair.high) || (nat_eq x hop.pair.high && nat_eq y hop.pair.low))

-- the hop of the case n between x and y is among these
abbrev pub has_gone : List GoneHop → ℕ → ℕ → ℕ → Bool
has_gone gone x y n = list_any (is_gone x y n) gone

-- `after` has the hops of `before` and those of this case between neighbours in the chain
abbrev pub Gathers : List GoneHop → ℕ → List ℕ → List GoneHop → Type 0
Gathers before case chain after =
    (x y n : ℕ) → has_gone after x y n ≡ (has_gone before x y n || (nat_eq n case && has_hop chain x y))
