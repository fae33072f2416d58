-- Bytes that are the spellings of items, one after another.
use Rattle.std.specs.Prelude.{◌≡◌, ℕ, zero, suc, ◌<◌, List, [], ◌∷◌, length, Some, None, option_map, option_and_then}
use Rattle.std.specs.declared.option.Option.{Option}
use Rattle.held_bytes.specs.Units.{Begins}

-- The bytes are the spellings of the items, one after another, and nothing else.
abbrev pub IsJoined : {A : Type 0} → (List ℕ → A → Type 0) → List ℕ → List A → Type 0
IsJoined S bytes [] = bytes ≡ []
IsJoined S bytes (item ∷ items) = (rest : List ℕ) × Begins S bytes item rest × IsJoined S rest items

-- ---- by a function that reads the first item and gives the bytes behind it

-- the items, where at most so many are read
unfoldable pub items_within : {A : Type 0} → (List ℕ → Option (A × List ℕ)) → ℕ → List ℕ → Option (List A)
items_within first n [] = Some []
items_within first zero (b ∷ bytes) = None
items_within first (suc n) (b ∷ bytes) = option_and_then (λ x. option_map (λ items. x.0 ∷ items) (items_within first n x.1)) (first (b ∷ bytes))

-- the items, read until nothing is left
unfoldable pub items_of : {A : Type 0} → (List ℕ → Option (A × List ℕ)) → List ℕ → Option (List A)
items_of first bytes = items_within first (length bytes) bytes

-- The function reads an item exactly where the bytes begin with one. So no spelling begins another one, and each has one item.
pub record IsReader {A : Type 0} (S : List ℕ → A → Type 0) (first : List ℕ → Option (A × List ℕ)) : Type 0 where
  pub finds : (bytes : List ℕ) (item : A) (rest : List ℕ) → first bytes ≡ Some (item, rest) → Begins S bytes item rest
  pub only : (bytes : List ℕ) (item : A) (rest : List ℕ) → Begins S bytes item rest → first bytes ≡ Some (item, rest)
  pub some : (front : List ℕ) (item : A) → S front item → 0 < length front
