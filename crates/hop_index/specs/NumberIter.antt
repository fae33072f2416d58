-- What is still to come of a set of numbers. Private contracts alone cite it.
use Rattle.std.specs.Prelude.{ℕ, List, [], ◌∷◌}
use Rattle.std.specs.Map.{keys_of}
use Rattle.std.specs.Slice.Iter.{iter_rest}
use Rattle.hop_index.specs.declared.number_iter.Left.{Left}
use Rattle.hop_index.specs.declared.number_iter.Left.TheVariants.{End, Last, LastTwo, LastThree, OfListed, OfMany}

-- the numbers that are still to come
abbrev pub numbers_left : Left → List ℕ
numbers_left End = []
numbers_left (Last a) = a ∷ []
numbers_left (LastTwo a b) = a ∷ b ∷ []
numbers_left (LastThree a b c) = a ∷ b ∷ c ∷ []
numbers_left (OfListed numbers) = iter_rest numbers
numbers_left (OfMany numbers) = keys_of numbers
