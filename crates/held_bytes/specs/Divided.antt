-- When the units of each stream are determined by it.
use Rattle.std.specs.Prelude.{◌≡◌, ◌⊎◌, ℕ, ◌<◌, List, length}
use Rattle.held_bytes.specs.Units.{Begins, BeginsWithNone}

-- no unit begins another one: the first unit of a stream and what is behind it are determined
abbrev pub NoneBeginsAnother : {A : Type 0} → (List ℕ → A → Type 0) → Type 0
NoneBeginsAnother {A} IsUnit = (bytes : List ℕ) (one other : A) (rest more : List ℕ) → Begins IsUnit bytes one rest → Begins IsUnit bytes other more → (one ≡ other) × (rest ≡ more)

-- bytes begin with a unit, or with none
abbrev pub BeginsOrNot : {A : Type 0} → (List ℕ → A → Type 0) → List ℕ → Type 0
BeginsOrNot {A} IsUnit bytes = ((unit : A) × (rest : List ℕ) × Begins IsUnit bytes unit rest) ⊎ BeginsWithNone IsUnit bytes

-- Units that divide each stream in one way: each has bytes, none begins another, and what bytes begin with is told.
pub record Divides {A : Type 0} (IsUnit : List ℕ → A → Type 0) : Type 0 where
  pub some : (bytes : List ℕ) (unit : A) → IsUnit bytes unit → 0 < length bytes
  pub alone : NoneBeginsAnother IsUnit
  pub told : (bytes : List ℕ) → BeginsOrNot IsUnit bytes
