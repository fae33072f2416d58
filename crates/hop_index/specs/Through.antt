-- What is given of one AS.
use Rattle.std.specs.Prelude.{ℕ, List}
use Rattle.hop_index.specs.declared.through.Through.{Through}
use Rattle.hop_index.specs.declared.through.Left.{Left}
use Rattle.hop_index.specs.declared.through.Left.TheVariants.{Listed, Loose}
use Rattle.hop_index.specs.Ends.{listed_ends}
use Rattle.hop_index.specs.LooseEnds.{loose_ends}

-- what is still to come
abbrev pub left_of : Left → List (ℕ × ℕ)
left_of (Listed through) = listed_ends through
left_of (Loose through) = loose_ends through

abbrev pub ends_left : Through → List (ℕ × ℕ)
ends_left through = left_of through.left
