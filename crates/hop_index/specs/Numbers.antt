-- Sets of numbers, as rising lists.
use Rattle.std.specs.Prelude.{◌≡◌, ℕ, nat_eq, Bool, List, [], ◌++◌}
use Rattle.std.specs.declared.option.Option.{Option}
use Rattle.std.specs.declared.option.Option.TheVariants.{Some, None}
use Rattle.std.specs.List.{list_any}

-- the number is one of these
abbrev pub has_number : List ℕ → ℕ → Bool
has_number numbers n = list_any (nat_eq n) numbers

-- `after` has these numbers, and behind them exactly those that pass
abbrev pub Appends : List ℕ → (ℕ → Bool) → List ℕ → Type 0
Appends before passes after = (more : List ℕ) × (after ≡ before ++ more) × ((n : ℕ) → has_number more n ≡ passes n)

-- the numbers that were found, and none where nothing was
abbrev pub numbers_or : Option (List ℕ) → List ℕ
numbers_or None = []
numbers_or (Some numbers) = numbers

-- the number is one of those that were found
abbrev pub found_has : Option (List ℕ) → ℕ → Bool
found_has found n = has_number (numbers_or found) n
