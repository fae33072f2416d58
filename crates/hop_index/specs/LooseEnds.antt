-- The other ends of one AS's hops, as chains that aren't in lists give them.
use Rattle.std.specs.Prelude.{ℕ, List, ◌++◌}
use Rattle.hop_index.specs.declared.loose_through.LooseThrough.{LooseThrough}
use Rattle.hop_index.specs.Ends.{ends_at, ends_of}
use Rattle.hop_index.specs.Loose.{loose_at, beside, not_below}

-- what is still to come: the rest of one neighbour's, and those of the ones that are at least `from`
abbrev pub loose_ends : LooseThrough → List (ℕ × ℕ)
loose_ends through =
    ends_at through.y through.cases
    ++ ends_of (loose_at through.loose.now through.x) (not_below through.from (beside through.x through.loose.now))
