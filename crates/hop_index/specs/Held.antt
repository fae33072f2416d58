-- How a set of numbers is held. Private contracts alone cite it.
use Rattle.std.specs.Prelude.{◌≡◌, ℕ, List, [], ◌∷◌}
use Rattle.std.specs.declared.cmp.Ordering.TheVariants.{Greater}
use Rattle.std.specs.List.{AllByRecursion}
use Rattle.std.specs.Map.{keys_of}
use Rattle.std.specs.Ordering.{nat_cmp}
use Rattle.hop_index.specs.declared.held.Held.{Held}
use Rattle.hop_index.specs.declared.held.Held.TheVariants.{Empty, One, Two, Three, Listed, Many}

-- the numbers of a set
abbrev pub numbers_held : Held → List ℕ
numbers_held Empty = []
numbers_held (One a) = a ∷ []
numbers_held (Two a b) = a ∷ b ∷ []
numbers_held (Three a b c) = a ∷ b ∷ c ∷ []
numbers_held (Listed numbers) = numbers.value.items
numbers_held (Many numbers) = keys_of numbers.value

-- all of these are below this number
abbrev pub AreBelow : ℕ → List ℕ → Type 0
AreBelow number numbers = AllByRecursion (λ n. nat_cmp number n ≡ Greater) numbers
