-- Two ASes in one order, so that a hop is the same from either of them.
use Rattle.std.specs.Prelude.{ℕ, ◌+◌, ◌*◌, min, max}
use Rattle.std.specs.Ordering.{nat_cmp, ordering_then}
use Rattle.std.specs.declared.cmp.Ordering.{Ordering}
use Rattle.hop_index.specs.declared.pair.Pair.{Pair}

-- the pair of two ASes, the lower number first
abbrev pub pair_of : ℕ → ℕ → Pair
pair_of x y = record { low = min x y; high = max x y }

-- by the lower number and then by the higher one
abbrev pub pair_cmp : Pair → Pair → Ordering
pair_cmp p q = ordering_then (nat_cmp p.low q.low) (nat_cmp p.high q.high)

-- a pair as one word
abbrev pub pair_word : Pair → ℕ
pair_word p = p.low * 4294967296 + p.high
