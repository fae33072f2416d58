-- The neighbours of one AS, as they are given. Private contracts alone cite it.
use Rattle.std.specs.Prelude.{ℕ, List}
use Rattle.hop_index.specs.declared.neighbour_iter.Left.{Left}
use Rattle.hop_index.specs.declared.neighbour_iter.Left.TheVariants.{Listed, Loose}
use Rattle.hop_index.specs.Numbers.{numbers_or}

-- the neighbours that are still to come
abbrev pub neighbours_left : Left → List ℕ
neighbours_left (Listed numbers) = numbers_or numbers
neighbours_left (Loose neighbours) = neighbours
